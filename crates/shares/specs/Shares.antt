-- Which coefficient moved a sample: definitions. Document 02, P9. A sample of a hop lies in two blocks, an earlier and a later one, and the joint between them has one shape.
use Rattle.std.specs.Prelude.{Bool, true, false, cond, List, ℕ, zero, suc, ◌+◌, ◌/◌, ◌<◌, ltb, eqb, ℤ, nat_abs, ◌-ℤ◌, ◌*ℤ◌, Option, None, Some}
use Rattle.arithmetic.specs.Lists.{at}
use Rattle.cosine.specs.Kernels.{K, rising, falling}
use Rattle.shares.specs.declared.Share.{Share}

-- 'A share is the change times K times W at that sample, taken without its sign': of coefficient k, x the original coefficients of its block and y the changed ones
unfoldable pub share_of : List ℤ → List ℤ → (ℕ → ℤ) → ℤ → ℕ → ℕ
share_of x y kernel w k = nat_abs ((at y k -ℤ at x k) *ℤ kernel k *ℤ w)

-- place n of the hop is place M + n of the earlier block, where W is the falling half of the joint ..
unfoldable pub earlier : (N shape n : ℕ) → List ℤ → List ℤ → ℕ → ℕ
earlier N shape n x y = share_of x y (K N (N / 2 + n)) (falling shape N n)

-- .. and place n of the later one, where W is its rising half
unfoldable pub later : (N shape n : ℕ) → List ℤ → List ℤ → ℕ → ℕ
later N shape n x y = share_of x y (K N n) (rising shape N n)

-- the share of coefficient k of block j, 0 the earlier and 1 the later, f and g being the shares of the two
unfoldable pub share_in : (f g : ℕ → ℕ) → ℕ → ℕ → ℕ
share_in f g zero k = f k
share_in f g (suc j) k = g k

-- who wins on equal shares: coefficient k of block j comes before coefficient l of block i
pub data Before : ℕ → ℕ → ℕ → ℕ → Type 0 where
  block : {k l : ℕ} → Before 0 k 1 l
  coefficient : {j k l : ℕ} → k < l → Before j k j l

-- the place of the largest of f 0 .. f (m - 1): a later one takes the place of an earlier one only where it is larger, so that 'the lower coefficient' wins on equal shares
unfoldable pub best : (ℕ → ℕ) → ℕ → ℕ
best f zero = 0
best f (suc m) = cond (ltb (f (best f m)) (f m)) m (best f m)

-- whether a share is not zero, and then the block, 0 the earlier and 1 the later, and the coefficient
pub record Named : Type 0 where
  pub any : Bool
  pub block : ℕ
  pub coefficient : ℕ

-- nothing is named
abbrev pub none : Named
none = record { any = false; block = 0; coefficient = 0 }

-- the block, 0 the earlier and 1 the later, and the coefficient with the largest share: 'on equal shares the earlier block wins', so the later one has to be larger. 'If all shares are zero it says so'
unfoldable pub named : ℕ → (ℕ → ℕ) → (ℕ → ℕ) → Named
named m f g =
    cond (ltb (f (best f m)) (g (best g m))) (record { any = true; block = 1; coefficient = best g m })
    (cond (eqb (f (best f m)) 0) none (record { any = true; block = 0; coefficient = best f m }))

-- of the sample at place n, first and second being the original coefficients of its two blocks and those with a dash the changed ones
unfoldable pub largest_share : (N shape n : ℕ) → (first first' second second' : List ℤ) → Named
largest_share N shape n first first' second second' = named (N / 2) (earlier N shape n first first') (later N shape n second second')

-- an answer as what it names
abbrev pub named_by : Option Share → Named
named_by None = none
named_by (Some s) = record { any = true; block = s.block; coefficient = s.coefficient }
