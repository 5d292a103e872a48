-- Powers of two, as shifts and doubling make them.
use Rattle.std.proofs.Common.{◌≡◌, ℕ, ◌+◌, ◌*◌, ◌/◌, ◌^◌, ◌<◌, ◌≤◌, arith, add-one}
use Rattle.std.proofs.Math.Nat.{div-eq_of_lt, one-le-pow, pow-le-pow_right, two-pow-succ}

pub pow_pos : (k : ℕ) → 0 < 2 ^ k
pow_pos k = omega (arith, one-le-pow k 2 (omega arith))

-- a number of 64 bits has nothing left after a shift by 64 or more
pub past_shift : (n k : ℕ) → n < 2 ^ 64 → 64 ≤ k → n / 2 ^ k ≡ 0
past_shift n k small far =
    let more : 2 ^ 64 ≤ 2 ^ k = pow-le-pow_right {n = 2} (omega arith) {i = 64} {j = k} far in
    div-eq_of_lt {n = n} {m = 2 ^ k} (omega (arith, more, small))

-- twice the room is that of one scale more
pub room_doubles : (room k : ℕ) → room ≡ 8192 * 2 ^ k → room * 2 ≡ 8192 * 2 ^ (k + 1)
room_doubles room k is = rw add-one (omega (arith, is, two-pow-succ k))
