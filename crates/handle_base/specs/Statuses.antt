-- The statuses of answers by their names, which are those of compressor.h in lower case. It says what each means.
use Rattle.std.specs.Prelude.{ℕ}

-- calls of a mutator; not_in_edition has no name there, since no call that is exported is refused so
abbrev pub busy : ℕ
busy = 1

abbrev pub null_object : ℕ
null_object = 2

abbrev pub not_a_start : ℕ
not_a_start = 3

abbrev pub no_such_field : ℕ
no_such_field = 4

abbrev pub not_in_edition : ℕ
not_in_edition = 5

abbrev pub object_too_large : ℕ
object_too_large = 6

abbrev pub out_of_pages : ℕ
out_of_pages = 7

abbrev pub journal_full : ℕ
journal_full = 8

abbrev pub out_of_memory : ℕ
out_of_memory = 9

abbrev pub empty_handle : ℕ
empty_handle = 10

abbrev pub not_empty : ℕ
not_empty = 11

abbrev pub no_such_page : ℕ
no_such_page = 12

abbrev pub no_such_root : ℕ
no_such_root = 13

abbrev pub bad_mutators : ℕ
bad_mutators = 14

abbrev pub too_many_pages : ℕ
too_many_pages = 15

abbrev pub mutator_missing : ℕ
mutator_missing = 16

abbrev pub other_crew : ℕ
other_crew = 17

abbrev pub no_mutator_left : ℕ
no_mutator_left = 18

abbrev pub bad_edition : ℕ
bad_edition = 19

abbrev pub not_built : ℕ
not_built = 20

abbrev pub no_such_entry : ℕ
no_such_entry = 21

abbrev pub too_short : ℕ
too_short = 22

abbrev pub no_such_build : ℕ
no_such_build = 23

abbrev pub no_such_mutator : ℕ
no_such_mutator = 24

-- calls of a heap at rest
abbrev pub no_such_part : ℕ
no_such_part = 25

abbrev pub changed : ℕ
changed = 26

abbrev pub unmarked : ℕ
unmarked = 27

abbrev pub still_shared : ℕ
still_shared = 28

abbrev pub other_count : ℕ
other_count = 29

abbrev pub short_tables : ℕ
short_tables = 30

abbrev pub wrong_length : ℕ
wrong_length = 31

abbrev pub bad_options : ℕ
bad_options = 32

-- 32 + n: fault Hn of a heap or an image (docs/FORMATS.md); H11 is out_of_memory
abbrev pub too_large : ℕ
too_large = 33

abbrev pub object_past_end : ℕ
object_past_end = 34

abbrev pub object_too_long : ℕ
object_too_long = 35

abbrev pub mark_not_start : ℕ
mark_not_start = 36

abbrev pub marks_not_rising : ℕ
marks_not_rising = 37

abbrev pub bad_root : ℕ
bad_root = 38

abbrev pub unmarked_target : ℕ
unmarked_target = 39

abbrev pub image_truncated : ℕ
image_truncated = 40

abbrev pub image_trailing : ℕ
image_trailing = 41

abbrev pub image_bad_magic : ℕ
image_bad_magic = 42

abbrev pub bad_weak : ℕ
bad_weak = 45

-- 64 + n: fault An of a dump
abbrev pub wrong_word : ℕ
wrong_word = 65

abbrev pub loose_reference : ℕ
loose_reference = 66

abbrev pub bad_entry : ℕ
bad_entry = 67

abbrev pub stamp_repeated : ℕ
stamp_repeated = 68

abbrev pub stamp_missing : ℕ
stamp_missing = 69

abbrev pub wrong_total : ℕ
wrong_total = 70

abbrev pub build_unclaimed : ℕ
build_unclaimed = 71

abbrev pub wrong_head : ℕ
wrong_head = 72

abbrev pub page_missing : ℕ
page_missing = 73

-- 96 + n: Bn, the bytes are no dump, no file of words, no moved heap
abbrev pub file_truncated : ℕ
file_truncated = 97

abbrev pub file_trailing : ℕ
file_trailing = 98

abbrev pub file_bad_magic : ℕ
file_bad_magic = 99

abbrev pub file_bad_field : ℕ
file_bad_field = 100

-- 128 + n: fault Sn of a heap at rest; those that have the cause of a fault Hn are 32 + n
abbrev pub bad_reference : ℕ
bad_reference = 131

abbrev pub overlap : ℕ
overlap = 135

-- 160 + n: fault Vn of a moved heap. Objects are the marked ones, counted from 0
abbrev pub moved_wrong_head : ℕ
moved_wrong_head = 161

abbrev pub moved_place_outside : ℕ
moved_place_outside = 162

abbrev pub moved_overlap : ℕ
moved_overlap = 163

abbrev pub moved_wrong_root : ℕ
moved_wrong_root = 164

abbrev pub moved_wrong_word : ℕ
moved_wrong_word = 165

-- bits of the runtime's own
abbrev pub not_a_run : ℕ
not_a_run = 192

-- calls of a slide by pages
abbrev pub no_size : ℕ
no_size = 193

abbrev pub page_home : ℕ
page_home = 194

abbrev pub page_busy : ℕ
page_busy = 195

abbrev pub turn_taken : ℕ
turn_taken = 196

abbrev pub not_home : ℕ
not_home = 197

abbrev pub no_turn : ℕ
no_turn = 198

abbrev pub other_length : ℕ
other_length = 199

-- calls of a marking by many threads
abbrev pub markers_busy : ℕ
markers_busy = 200

abbrev pub still_marking : ℕ
still_marking = 201

abbrev pub bad_object : ℕ
bad_object = 202

-- calls of a marking by looks
abbrev pub no_such_object : ℕ
no_such_object = 210

abbrev pub still_waiting : ℕ
still_waiting = 211

abbrev pub missing_object : ℕ
missing_object = 212

abbrev pub other_heap : ℕ
other_heap = 213

-- young collections
abbrev pub few_words : ℕ
few_words = 221

abbrev pub few_cards : ℕ
few_cards = 222

abbrev pub not_a_field : ℕ
not_a_field = 223

abbrev pub not_a_row : ℕ
not_a_row = 224

abbrev pub leads_above : ℕ
leads_above = 225

-- collections around objects that stay
abbrev pub bad_pin : ℕ
bad_pin = 226

-- a watermark that is raised
abbrev pub below_watermark : ℕ
below_watermark = 227

-- a handle of another kind
abbrev pub wrong_handle : ℕ
wrong_handle = 255
