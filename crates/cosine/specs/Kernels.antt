-- The block lengths, the window W and the kernels K and L: definitions. Document 01, 'What the recorder holds',
-- 'Rounding and the cosine table' and 'Short route', with P4's lengths and parts of a turn, and the joints of document 02, P7.
use Rattle.std.specs.Prelude.{Bool, cond, not, List, [], ◌∷◌, ℕ, ◌+◌, ◌-◌, ◌*◌, ◌/◌, ◌%◌, ◌^◌, eqb, ltb, ℤ, pos, neg_ℤ, ◌+ℤ◌, ◌-ℤ◌, ◌*ℤ◌}
use Rattle.arithmetic.specs.Lists.{every}
use Rattle.cosine.specs.Cosine.{quarter, third, sixth, eighth, twelfth, C}

-- N is the block length: 12, 24, 36, 72, 108 or 216 (P4). M = N/2 is a hop, document 01's term
unfoldable pub lengths : List ℕ
lengths = 12 ∷ 24 ∷ 36 ∷ 72 ∷ 108 ∷ 216 ∷ []

-- N is one of them
unfoldable pub tabled : ℕ → Bool
tabled N = not (every (λ L. not (eqb N L)) lengths)

-- the lengths at which the short route is offered: document 01's four
unfoldable pub short_lengths : List ℕ
short_lengths = 12 ∷ 24 ∷ 36 ∷ 72 ∷ []

unfoldable pub short_tabled : ℕ → Bool
short_tabled N = not (every (λ L. not (eqb N L)) short_lengths)

-- d = 216/N
abbrev pub d : ℕ → ℕ
d N = quarter / N

-- the window W(n) = C(d × (N - 2n - 1)), the sine window
unfoldable pub W : ℕ → ℕ → ℤ
W N n = C (pos (d N) *ℤ (pos N -ℤ pos (2 * n + 1)))

-- the short rising half (P7): M/3 zeros, then a sine rise of R = M/3 entries, C(216 - (108 / R) × (2j + 1)), then M/3 entries of 67,108,864
unfoldable pub short_rise : ℕ → ℕ → ℤ
short_rise N n =
    let R = N / 6 in
    cond (ltb n R) (pos 0) (cond (ltb n (2 * R)) (C (pos quarter -ℤ pos (eighth / R * (2 * (n - R) + 1)))) (pos (2 ^ 26)))

-- a joint is where two blocks meet. Its shape is a number: 0 is long, the sine window's; 1 is short (P7). Its rising half ..
unfoldable pub rising : ℕ → ℕ → ℕ → ℤ
rising shape N n = cond (eqb shape 0) (W N n) (short_rise N n)

-- .. and its falling half: W(M) .. W(N-1), or the mirror of the short rising half
unfoldable pub falling : ℕ → ℕ → ℕ → ℤ
falling shape N n = cond (eqb shape 0) (W N (N / 2 + n)) (short_rise N (N / 2 - 1 - n))

-- the kernel K(n,k) = C(d × (2n + 1 + N/2) × (2k + 1)), n from 0 to N - 1, k from 0 to M - 1
unfoldable pub K : ℕ → ℕ → ℕ → ℤ
K N n k = C (pos (d N * (2 * n + 1 + N / 2) * (2 * k + 1)))

-- the folded kernel F(j,k) = C(d × (2j + 1) × (2k + 1)), j and k from 0 to M - 1: source 003, equation (41)
unfoldable pub F : ℕ → ℕ → ℕ → ℤ
F N j k = C (pos (d N * (2 * j + 1) * (2 * k + 1)))

-- the short kernel L(n,k) = C(3d × (2n + 1 + N/6) × (2k + 1)), n from 0 to N/3 - 1, k from 0 to N/6 - 1
unfoldable pub L : ℕ → ℕ → ℕ → ℤ
L N n k = C (pos (3 * d N * (2 * n + 1 + N / 6) * (2 * k + 1)))

-- the angle s = 2d(2n + 1) of the short route
unfoldable pub s : ℕ → ℕ → ℕ
s N n = 2 * d N * (2 * n + 1)

-- the cosines beside e and f in the short route's rB and rC: C(216-s), C(s-72) + C(s+72), C(s), C(144-s) + C(288-s)
unfoldable pub e_b : ℕ → ℕ → ℤ
e_b N n = C (pos quarter -ℤ pos (s N n))

unfoldable pub f_b : ℕ → ℕ → ℤ
f_b N n = C (pos (s N n) -ℤ pos twelfth) +ℤ C (pos (s N n) +ℤ pos twelfth)

unfoldable pub e_c : ℕ → ℕ → ℤ
e_c N n = C (pos (s N n))

unfoldable pub f_c : ℕ → ℕ → ℤ
f_c N n = C (pos sixth -ℤ pos (s N n)) +ℤ C (pos third -ℤ pos (s N n))

-- the sign of rC(n) is changed when n + N/12 is even
unfoldable pub turned : ℕ → ℕ → ℤ → ℤ
turned N n z = cond (eqb ((n + N / 12) % 2) 0) (neg_ℤ z) z
