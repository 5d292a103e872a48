-- The words of members that are taken apart, one after the other.
use Rattle.std.proofs.Common.{◌≡◌, ℕ, ◌+◌, ◌*◌, ◌≤◌, arith}

-- each member adds at most the words of as many fresh pages as there may be
pub bound_more : (words more made done longer : ℕ) → more ≡ words + made → made ≤ 67108864 → longer ≡ done + 1 → words ≤ done * 67108864 → more ≤ longer * 67108864
bound_more words more made done longer e small long h = omega arith

pub bound_all : (words done : ℕ) → words ≤ done * 67108864 → done ≤ 255 → words ≤ 17112760320
bound_all words done h few = omega arith
