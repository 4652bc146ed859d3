-- Laws of numbers: what is printed reads back as the same number, `reads_back`, and a well-formed number's bytes are those printed for its value,
-- `printed_only`.
use Rattle.std.specs.Prelude.{◌≡◌, refl, Bool, true, false, not, ◌&&◌, List, [], ◌∷◌, ◌++◌, ℕ, zero, suc, ◌+◌, ◌-◌, ◌*◌, ◌/◌, ◌%◌, ◌^◌, ◌≤◌, ◌<◌, ◌≢◌, T, leb, ltb, eqb, length, get_or, drop, ℤ, pos, negsuc, neg_ℤ, nat_abs}
use Rattle.std.proofs.Common.{sym, ap, ◌∙◌, append_assoc, append-nil, mul-le-mul_left, mul-le-mul_right, arith, leb→le, le→leb, eqb→eq, T_not, ltb→lt, length-append, lt-ltb, le-ltb, le-leb, eq-eqb, ne_eqb, eqb-true}
use Rattle.std.proofs.Math.Nat.{one-le-pow, pow-succ'}
use Rattle.std.proofs.Math.Decide.{dec_lt}
use Rattle.std.proofs.Math.Dec.{not_T}
use Rattle.std.proofs.Math.ListN.{get_or-append}
use Rattle.std.specs.Int.Signed.{lt_z}
use Rattle.arithmetic.specs.Lists.{every}
use Rattle.arithmetic.specs.IntegerLaws.{ints}
use Rattle.arithmetic.specs.OrderLaws.{lt_z-true, lt_z-false}
use Rattle.arithmetic.specs.TestLaws.{both_left, both_right, both_make}
use Rattle.text.specs.Bytes.{minus, digit}
use Rattle.text.specs.Number.{is_digit, leading_zero, is_natural, natural_from, natural, is_signed, is_number, value, digits_by, decimal, printed}

-- ---- both of two tests
pub and_left : (a b : Bool) → T (a && b) → T a
and_left true b t = tt
and_left false b t = t

pub and_right : (a b : Bool) → T (a && b) → T b
and_right true b t = t
and_right false b t = absurd t

pub and_make : (a b : Bool) → T a → T b → T (a && b)
and_make true b s t = t
and_make false b s t = s

-- ---- a digit
pub digit_low : (b : ℕ) → T (is_digit b) → digit 0 ≤ b
unfolding is_digit
digit_low b t = leb→le (digit 0) b (and_left (leb (digit 0) b) (leb b (digit 9)) t)

pub digit-high : (b : ℕ) → T (is_digit b) → b ≤ digit 9
unfolding is_digit
digit-high b t = leb→le b (digit 9) (and_right (leb (digit 0) b) (leb b (digit 9)) t)

pub digit-is : (d : ℕ) → d < 10 → T (is_digit (digit d))
unfolding is_digit
digit-is d h = and_make (leb (digit 0) (digit d)) (leb (digit d) (digit 9)) (le→leb (digit 0) (digit d) (omega arith)) (le→leb (digit d) (digit 9) (omega arith))

-- ---- the digits of n: one, or those of n / 10 and the last
digits-one : (f n : ℕ) → n < 10 → digits_by f n ≡ digit n ∷ []
unfolding digits_by
digits-one zero n h = refl
digits-one (suc f) n h = rw (lt-ltb n 10 h, digits_by)

digits_more : (f n : ℕ) → 10 ≤ n → digits_by (suc f) n ≡ digits_by f (n / 10) ++ (digit (n % 10) ∷ [])
unfolding digits_by
digits_more f n h = rw (le-ltb n 10 h, digits_by)

-- any f from n on serves
digits-enough : (f g n : ℕ) → n ≤ f → n ≤ g → digits_by f n ≡ digits_by g n
digits-enough zero g n p q = digits-one zero n (omega arith) ∙ sym (digits-one g n (omega arith))
digits-enough (suc f) zero n p q = digits-one (suc f) n (omega arith) ∙ sym (digits-one zero n (omega arith))
digits-enough (suc f) (suc g) n p q = go (dec_lt n 10) (λ r s. digits-enough f g (n / 10) r s)
  where
    go : Dec (n < 10) → (n / 10 ≤ f → n / 10 ≤ g → digits_by f (n / 10) ≡ digits_by g (n / 10)) → digits_by (suc f) n ≡ digits_by (suc g) n
    go (yes h) ih = digits-one (suc f) n h ∙ sym (digits-one (suc g) n h)
    go (no h) ih =
        let m : 10 ≤ n = omega arith in
        digits_more f n m ∙ ap (λ (ds : List ℕ). ds ++ (digit (n % 10) ∷ [])) (ih (omega arith) (omega arith)) ∙ sym (digits_more g n m)

pub decimal-one : (n : ℕ) → n < 10 → decimal n ≡ digit n ∷ []
unfolding decimal
decimal-one n h = digits-one n n h

pub decimal-more : (n : ℕ) → 10 ≤ n → decimal n ≡ decimal (n / 10) ++ (digit (n % 10) ∷ [])
unfolding decimal
decimal-more zero h = absurd (omega arith)
decimal-more (suc n) h = digits_more n (suc n) h ∙ ap (λ (ds : List ℕ). ds ++ (digit (suc n % 10) ∷ [])) (digits-enough n (suc n / 10) (suc n / 10) (omega arith) (omega arith))

pub decimal_length_one : (n : ℕ) → n < 10 → length (decimal n) ≡ 1
decimal_length_one n h = rw (decimal-one n h)

pub decimal_length_more : (n : ℕ) → 10 ≤ n → length (decimal n) ≡ length (decimal (n / 10)) + 1
decimal_length_more n h = rw (decimal-more n h) (length-append (decimal (n / 10)) (digit (n % 10) ∷ []))

-- ---- reading what follows
natural_from_append : (n : ℕ) (xs ys : List ℕ) → natural_from n (xs ++ ys) ≡ natural_from (natural_from n xs) ys
unfolding natural_from
natural_from_append n [] ys = refl
natural_from_append n (x ∷ xs) ys = natural_from_append (10 * n + (x - digit 0)) xs ys

every_snoc : (p : ℕ → Bool) (xs : List ℕ) (y : ℕ) → T (every p xs) → T (p y) → T (every p (xs ++ (y ∷ [])))
unfolding every
every_snoc p [] y s t = both_make (p y) true t tt
every_snoc p (x ∷ xs) y s t = both_make (p x) (every p (xs ++ (y ∷ []))) (both_left (p x) (every p xs) s) (every_snoc p xs y (both_right (p x) (every p xs) s) t)

-- ---- ds are the digits of n
pub record Digits (n : ℕ) (ds : List ℕ) : Type 0 where
  pub digits : T (every is_digit ds)
  pub some : 1 ≤ length ds
  pub is : natural ds ≡ n
  pub front : 0 < n → digit 0 < get_or ds 0 0
  pub short : (k : ℕ) → n < 10 ^ suc k → length ds ≤ suc k

digits_of_one : (n : ℕ) → n < 10 → Digits n (digit n ∷ [])
unfolding every natural natural_from
digits_of_one n h = record {
  digits = both_make (is_digit (digit n)) true (digit-is n h) tt;
  some = omega arith;
  is = omega arith;
  front = λ p. omega arith;
  short = λ k p. omega arith;
}

digits_of_more : (n : ℕ) (ds : List ℕ) → 10 ≤ n → Digits (n / 10) ds → Digits n (ds ++ (digit (n % 10) ∷ []))
unfolding natural natural_from
digits_of_more n ds h D =
    let y = digit (n % 10) in
    record {
      digits = every_snoc is_digit ds y D.digits (digit-is (n % 10) (omega arith));
      some = simp length-append (omega arith);
      is = natural_from_append 0 ds (y ∷ []) ∙ omega (arith, D.is);
      front = λ p. rw (get_or-append ds (y ∷ []) 0 0 D.some) (D.front (omega arith));
      short = short;
    }
  where
    short : (k : ℕ) → n < 10 ^ suc k → length (ds ++ (digit (n % 10) ∷ [])) ≤ suc k
    short zero p = absurd (omega arith)
    short (suc k) p = simp length-append (omega (arith, D.short k (omega arith)))

digits_by_are : (f n : ℕ) → n ≤ f → Digits n (digits_by f n)
digits_by_are zero n h = rw (digits-one zero n (omega arith)) (digits_of_one n (omega arith))
digits_by_are (suc f) n h = go (dec_lt n 10) (λ r. digits_by_are f (n / 10) r)
  where
    go : Dec (n < 10) → (n / 10 ≤ f → Digits (n / 10) (digits_by f (n / 10))) → Digits n (digits_by (suc f) n)
    go (yes l) ih = rw (digits-one (suc f) n l) (digits_of_one n l)
    go (no l) ih = let m : 10 ≤ n = omega arith in rw (digits_more f n m) (digits_of_more n (digits_by f (n / 10)) m (ih (omega arith)))

pub decimal-digits : (n : ℕ) → Digits n (decimal n)
unfolding decimal
decimal-digits n = digits_by_are n n (omega arith)

-- a first byte that is a digit is no minus
digits_unsigned : (ds : List ℕ) → T (every is_digit ds) → is_signed ds ≡ false
unfolding is_signed every
digits_unsigned [] t = refl
digits_unsigned (d ∷ ds) t = ne_eqb d minus (λ e. omega (arith, digit_low d (both_left (is_digit d) (every is_digit ds) t)))

-- 1 to m digits, with no leading zero
pub record Natural (m : ℕ) (ds : List ℕ) : Type 0 where
  pub some : 1 ≤ length ds
  pub most : length ds ≤ m
  pub lead : T (not (leading_zero ds))
  pub digits : T (every is_digit ds)

pub natural_make : {m : ℕ} {ds : List ℕ} → Natural m ds → T (is_natural m ds)
unfolding is_natural
natural_make {m} {ds} N = rw (le-leb 1 (length ds) N.some, le-leb (length ds) m N.most) (and_make (not (leading_zero ds)) (every is_digit ds) N.lead N.digits)

pub natural-parts : (m : ℕ) (ds : List ℕ) → T (is_natural m ds) → Natural m ds
unfolding is_natural
natural-parts m ds t =
    let a = leb 1 (length ds) in
    let b = leb (length ds) m in
    let l = not (leading_zero ds) in
    let e = every is_digit ds in
    let u = and_left (a && b && l) e t in
    let v = and_left (a && b) l u in
    record { some = leb→le 1 (length ds) (and_left a b v); most = leb→le (length ds) m (and_right a b v); lead = and_right (a && b) l u; digits = and_right (a && b && l) e t }

not_both : (a b : Bool) → (T a → T b → ⊥) → T (not (a && b))
not_both true b f = not_T b (f tt)
not_both false b f = tt

decimal-natural : (k n : ℕ) → n < 10 ^ suc k → T (is_natural (suc k) (decimal n))
unfolding leading_zero
decimal-natural k n h =
    let D = decimal-digits n in
    natural_make (record { some = D.some; most = D.short k h; digits = D.digits; lead = not_both (ltb 1 (length (decimal n))) (eqb (get_or (decimal n) 0 0) (digit 0)) (λ t u. lead (dec_lt 0 n) D t u) })
  where
    lead : Dec (0 < n) → Digits n (decimal n) → T (ltb 1 (length (decimal n))) → T (eqb (get_or (decimal n) 0 0) (digit 0)) → ⊥
    lead (yes p) D t u = let e = eqb→eq (get_or (decimal n) 0 0) (digit 0) u in omega (arith, D.front p)
    lead (no p) D t u = let e = ltb→lt 1 (length (decimal n)) t in omega (arith, D.short 0 (omega arith))

-- ---- the two forms of a number
module _ (m : ℕ) (bs : List ℕ) (e : is_signed bs ≡ true) where
  pub number-signed : is_number m bs ≡ (is_natural m (drop 1 bs) && not (eqb (natural (drop 1 bs)) 0))
  unfolding is_number
  number-signed = rw e

  pub number_digits : T (is_number m bs) → Natural m (drop 1 bs)
  number_digits t = natural-parts m (drop 1 bs) (and_left (is_natural m (drop 1 bs)) (not (eqb (natural (drop 1 bs)) 0)) (rw number-signed at t))

pub number-plain : (m : ℕ) (bs : List ℕ) → is_signed bs ≡ false → is_number m bs ≡ is_natural m bs
unfolding is_number
number-plain m bs e = rw e

pub value-signed : (bs : List ℕ) → is_signed bs ≡ true → value bs ≡ neg_ℤ (pos (natural (drop 1 bs)))
unfolding value
value-signed bs e = rw e

pub value-plain : (bs : List ℕ) → is_signed bs ≡ false → value bs ≡ pos (natural bs)
unfolding value
value-plain bs e = rw e

minus-signed : (ds : List ℕ) → is_signed (minus ∷ ds) ≡ true
unfolding is_signed
minus-signed ds = refl

pub signed_front : (bs : List ℕ) → is_signed bs ≡ true → bs ≡ minus ∷ drop 1 bs
unfolding is_signed
signed_front [] e = absurd (omega (arith, eqb-true 0 minus e))
signed_front (b ∷ bs) e = rw (eqb-true b minus e)

pub signed_long : (bs : List ℕ) → is_signed bs ≡ true → 1 ≤ length bs
unfolding is_signed
signed_long [] e = absurd (omega (arith, eqb-true 0 minus e))
signed_long (b ∷ bs) e = omega arith

-- ---- what is printed reads back
pub reads_back : (k : ℕ) (z : ℤ) → nat_abs z < 10 ^ suc k → T (is_number (suc k) (printed z)) × (value (printed z) ≡ z)
unfolding printed
reads_back k (pos n) h =
    let D = decimal-digits n in
    let e = digits_unsigned (decimal n) D.digits in
    rw (number-plain (suc k) (decimal n) e, value-plain (decimal n) e) (decimal-natural k n h, ap pos D.is)
reads_back k (negsuc n) h =
    let ds = decimal (suc n) in
    let D = decimal-digits (suc n) in
    let e = minus-signed ds in
    rw
    (number-signed (suc k) (minus ∷ ds) e, value-signed (minus ∷ ds) e, D.is, ne_eqb (suc n) 0 (λ e. omega arith))
    (and_make (is_natural (suc k) ds) true (decimal-natural k (suc n) h) tt, refl)

-- ---- a well-formed number is printed so
snoc : {n : ℕ} {ds es : List ℕ} (d : ℕ) → ds ≡ es → n ≡ d → ds ++ (n ∷ []) ≡ es ++ (d ∷ [])
snoc d p q = cc

decimal_then : (n : ℕ) (ds : List ℕ) → 0 < n → T (every is_digit ds) → decimal (natural_from n ds) ≡ decimal n ++ ds
unfolding natural_from every
decimal_then n [] p t = sym (append-nil (decimal n))
decimal_then n (d ∷ ds) p t =
    let D = both_left (is_digit d) (every is_digit ds) t in
    let l = digit_low d D in
    let h = digit-high d D in
    let m = 10 * n + (d - digit 0) in
    decimal_then m ds (omega arith) (both_right (is_digit d) (every is_digit ds) t)
    ∙ ap (λ (xs : List ℕ). xs ++ ds) (decimal-more m (omega arith) ∙ snoc d (ap decimal (omega arith)) (omega arith))
    ∙ append_assoc (decimal n) (d ∷ []) ds

decimal_digit : (d : ℕ) → T (is_digit d) → decimal (10 * 0 + (d - digit 0)) ≡ d ∷ []
decimal_digit d D =
    let l = digit_low d D in
    let h = digit-high d D in
    let e : digit (10 * 0 + (d - digit 0)) ≡ d = omega arith in
    decimal-one (10 * 0 + (d - digit 0)) (omega arith) ∙ rw e

natural_only : {m : ℕ} (ds : List ℕ) → Natural m ds → decimal (natural ds) ≡ ds
unfolding natural natural_from every leading_zero
natural_only [] N = absurd (omega (arith, N.some))
natural_only (d ∷ []) N = decimal_digit d (both_left (is_digit d) true N.digits)
natural_only (d ∷ e ∷ ds) N =
    let D = both_left (is_digit d) (every is_digit (e ∷ ds)) N.digits in
    let l = digit_low d D in
    let z : d ≢ digit 0 = λ q. T_not (ltb 1 (length (d ∷ e ∷ ds)) && eqb d (digit 0)) N.lead (rw (lt-ltb 1 (length (d ∷ e ∷ ds)) (omega arith), eq-eqb d (digit 0) q) tt) in
    decimal_then (10 * 0 + (d - digit 0)) (e ∷ ds) (omega arith) (both_right (is_digit d) (every is_digit (e ∷ ds)) N.digits)
    ∙ ap (λ (xs : List ℕ). xs ++ (e ∷ ds)) (decimal_digit d D)

printed_below : (n : ℕ) → T (not (eqb n 0)) → printed (neg_ℤ (pos n)) ≡ minus ∷ decimal n
unfolding printed
printed_below zero t = absurd t
printed_below (suc n) t = refl

pub printed_only : (m : ℕ) (bs : List ℕ) → T (is_number m bs) → printed (value bs) ≡ bs
unfolding printed
printed_only m bs t = go (is_signed bs) refl
  where
    signed : (ds : List ℕ) → T (is_natural m ds && not (eqb (natural ds) 0)) → printed (neg_ℤ (pos (natural ds))) ≡ minus ∷ ds
    signed ds u =
        let a = is_natural m ds in
        let b = not (eqb (natural ds) 0) in
        printed_below (natural ds) (and_right a b u) ∙ ap (λ (xs : List ℕ). minus ∷ xs) (natural_only ds (natural-parts m ds (and_left a b u)))

    go : (s : Bool) → is_signed bs ≡ s → printed (value bs) ≡ bs
    go true e = ap printed (value-signed bs e) ∙ signed (drop 1 bs) (rw (number-signed m bs e) at t) ∙ sym (signed_front bs e)
    go false e = rw (value-plain bs e) (natural_only bs (natural-parts m bs (rw (number-plain m bs e) at t)))

-- ---- how large a number can be
pub natural_from_grows : (n : ℕ) (ds : List ℕ) → n ≤ natural_from n ds
unfolding natural_from
natural_from_grows n [] = omega arith
natural_from_grows n (d ∷ ds) = omega (arith, natural_from_grows (10 * n + (d - digit 0)) ds)

natural_from_below : (k n : ℕ) (ds : List ℕ) → length ds ≤ k → T (every is_digit ds) → natural_from n ds < (n + 1) * 10 ^ k
unfolding natural_from every
natural_from_below k n [] h t = omega (arith, mul-le-mul_left (n + 1) (one-le-pow k 10 (omega arith)))
natural_from_below zero n (d ∷ ds) h t = absurd (omega arith)
natural_from_below (suc k) n (d ∷ ds) h t =
    let D = both_left (is_digit d) (every is_digit ds) t in
    rw
    (pow-succ' 10 k)
    (next (10 * n + (d - digit 0)) n (10 ^ k) (natural_from (10 * n + (d - digit 0)) ds)
    (natural_from_below k (10 * n + (d - digit 0)) ds (omega arith) (both_right (is_digit d) (every is_digit ds) t))
    (omega (arith, digit_low d D, digit-high d D)))
  where
    next : (m n p r : ℕ) → r < (m + 1) * p → m + 1 ≤ 10 * (n + 1) → r < (n + 1) * (10 * p)
    next m n p r h l = omega (arith, mul-le-mul_right p l)

pub natural-most : (k : ℕ) (ds : List ℕ) → length ds ≤ k → T (every is_digit ds) → natural ds < 10 ^ k
unfolding natural
natural-most k ds h t = omega (arith, natural_from_below k 0 ds h t)

-- ---- more digits may be allowed
natural_wider : {j k : ℕ} {ds : List ℕ} → j ≤ k → Natural j ds → Natural k ds
natural_wider h N = record { some = N.some; most = omega (arith, N.most); lead = N.lead; digits = N.digits }

pub number_wider : (j k : ℕ) (bs : List ℕ) → j ≤ k → T (is_number j bs) → T (is_number k bs)
number_wider j k bs h t = go (is_signed bs) refl
  where
    wider : (ds : List ℕ) → T (is_natural j ds) → T (is_natural k ds)
    wider ds u = natural_make (natural_wider h (natural-parts j ds u))

    go : (s : Bool) → is_signed bs ≡ s → T (is_number k bs)
    go true e =
        let ds = drop 1 bs in
        let b = not (eqb (natural ds) 0) in
        let u = rw (number-signed j bs e) at t in
        rw (number-signed k bs e) (and_make (is_natural k ds) b (wider ds (and_left (is_natural j ds) b u)) (and_right (is_natural j ds) b u))
    go false e = rw (number-plain k bs e) (wider bs (rw (number-plain j bs e) at t))

-- ---- a number takes a byte at least, and a number of few digits few bytes
pub number_long : (m : ℕ) (bs : List ℕ) → T (is_number m bs) → 1 ≤ length bs
unfolding is_number is_signed is_natural
number_long m [] t = absurd t
number_long m (b ∷ bs) t = omega arith

pub decimal-most : (k n : ℕ) → n < 10 ^ suc k → length (decimal n) ≤ suc k
decimal-most k n h = (decimal-digits n).short k h

pub printed-most : (k : ℕ) (v : ℤ) → nat_abs v < 10 ^ suc k → length (printed v) ≤ k + 2
unfolding printed
printed-most k (pos n) h = omega (arith, decimal-most k n h)
printed-most k (negsuc n) h = omega (arith, decimal-most k (suc n) h)

-- ---- the print, by the sign
pub printed-negative : (v : ℤ) → lt_z v (pos 0) ≡ true → printed v ≡ minus ∷ decimal (nat_abs v)
unfolding printed
printed-negative (pos n) e = absurd (omega (arith, simp ints at (lt_z-true (pos n) (pos 0) e)))
printed-negative (negsuc n) e = refl

pub printed-other : (v : ℤ) → lt_z v (pos 0) ≡ false → printed v ≡ decimal (nat_abs v)
unfolding printed
printed-other (pos n) e = refl
printed-other (negsuc n) e = absurd (omega (arith, simp ints at (lt_z-false (negsuc n) (pos 0) e)))
