-- The limits of a heap, by its edition.
use Rattle.std.specs.Prelude.{ℕ, ◌^◌}
use Rattle.heap_layout.specs.declared.edition.Edition.{Edition}
use Rattle.heap_layout.specs.declared.edition.Edition.TheVariants.{One, Two, Three, Four}

-- the most words, and the most marks
abbrev pub most_words : Edition → ℕ
most_words One = 2 ^ 20
most_words Two = 2 ^ 20
most_words Three = 2 ^ 31
most_words Four = 2 ^ 31

-- the most pages that slid words fill
abbrev pub most_pages : Edition → ℕ
most_pages One = 2 ^ 14
most_pages Two = 2 ^ 14
most_pages Three = 2 ^ 25
most_pages Four = 2 ^ 25

-- the most fresh pages
abbrev pub most_fresh_pages : Edition → ℕ
most_fresh_pages One = 4096
most_fresh_pages Two = 4096
most_fresh_pages Three = 2 ^ 20
most_fresh_pages Four = 2 ^ 20

-- the most roots
abbrev pub most_roots : Edition → ℕ
most_roots One = 2 ^ 12
most_roots Two = 2 ^ 12
most_roots Three = 2 ^ 20
most_roots Four = 2 ^ 20

-- the most words of an object
abbrev pub most_object_words : Edition → ℕ
most_object_words One = 1024
most_object_words Two = 1024
most_object_words Three = 2 ^ 31
most_object_words Four = 2 ^ 31
