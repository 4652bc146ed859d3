-- Laws of the ring of integers that `Rattle.std.proofs.Math.IntN` lacks, and what proves the identities that follow from them:
--     simp ring (simp lins (omega zarith))     an order or an equation of polynomials of any degree: `ring` multiplies out and sorts,
--                                              and `lins` takes the product of two unknowns for an unknown
-- `simp ints (omega zarith)` does as much in one step where the unknowns' products come to at most 64 of naturals: four for each
-- product of two integers, eight of three.
use Rattle.std.specs.Prelude.{◌≡◌, ℕ, suc, ℤ, pos, negsuc, neg_ℤ, ◌+ℤ◌, ◌*ℤ◌}
use Rattle.std.proofs.Common.{sym, arith}
use Rattle.std.proofs.Math.IntN.{*ℤ_comm, neg_ℤ-+ℤ, neg_ℤ-neg_ℤ}
use Rattle.arithmetic.specs.IntegerLaws.{ints, D_le, D_lt, D_eq, D_add, D_mul, D_neg, D-at, D, ◌⊖◌, ⊖_neg, ⊖_add, ⊖_mul, ⊖_le, ⊖_lt, ⊖_eq}

pub *ℤ_assoc : (a b c : ℤ) → a *ℤ b *ℤ c ≡ a *ℤ (b *ℤ c)
*ℤ_assoc a b c = simp ints (omega arith)

pub *ℤ_lcomm : (a b c : ℤ) → a *ℤ (b *ℤ c) ≡ b *ℤ (a *ℤ c)
*ℤ_lcomm a b c = simp ints (omega arith)

pub *ℤ_distr : (a b c : ℤ) → (a +ℤ b) *ℤ c ≡ a *ℤ c +ℤ b *ℤ c
*ℤ_distr a b c = simp ints (omega arith)

pub *ℤ_distl : (a b c : ℤ) → a *ℤ (b +ℤ c) ≡ a *ℤ b +ℤ a *ℤ c
*ℤ_distl a b c = simp ints (omega arith)

pub neg_ℤ_*ℤ : (a b : ℤ) → neg_ℤ a *ℤ b ≡ neg_ℤ (a *ℤ b)
neg_ℤ_*ℤ a b = simp ints (omega arith)

pub *ℤ_neg_ℤ : (a b : ℤ) → a *ℤ neg_ℤ b ≡ neg_ℤ (a *ℤ b)
*ℤ_neg_ℤ a b = simp ints (omega arith)

pub ruleset ring = (*ℤ_distr, *ℤ_distl, neg_ℤ_*ℤ, *ℤ_neg_ℤ, neg_ℤ-+ℤ, neg_ℤ-neg_ℤ, *ℤ_assoc, *ℤ_comm, *ℤ_lcomm)

-- ---- a numeral among the factors, which `ring` sorts behind the unknowns
pub num_last : (a b : ℤ) (k : ℕ) → a *ℤ (b *ℤ pos k) ≡ a *ℤ b *ℤ pos k
num_last a b k = sym (*ℤ_assoc a b (pos k))

pub neg_last : (a b : ℤ) (k : ℕ) → a *ℤ (b *ℤ negsuc k) ≡ a *ℤ b *ℤ negsuc k
neg_last a b k = sym (*ℤ_assoc a b (negsuc k))

pub D_num : (k : ℕ) (a : ℤ) → D (a *ℤ pos k) ≡ D a *ℤ (k ⊖ 0)
D_num k a = rw (D_mul a (pos k), D-at (pos k))

pub D_num_ : (k : ℕ) (a : ℤ) → D (a *ℤ negsuc k) ≡ D a *ℤ (0 ⊖ suc k)
D_num_ k a = rw (D_mul a (negsuc k), D-at (negsuc k))

pub ruleset lins = (D_le, D_lt, D_eq, D_add, num_last, neg_last, D_num, D_num_, D_neg, D-at, ⊖_neg, ⊖_add, ⊖_mul, ⊖_le, ⊖_lt, ⊖_eq)
