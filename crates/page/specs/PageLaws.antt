-- Laws of a printed page: its sizes, its lines, and that each number can be read back from its columns.
use Rattle.std.specs.Prelude.{◌≡◌, refl, ℕ, zero, suc, ◌+◌, ◌*◌, ◌/◌, ◌%◌, ◌^◌, ◌≤◌, ◌<◌, T, drop, replicate, ℤ, pos, nat_abs}
use Rattle.std.proofs.Math.Path.{sym, ap}
use Rattle.std.proofs.Common.{◌∙◌, mul_comm, arith, take-take, ext_get_or}
use mathlib.Core.List.{List, [], ◌∷◌, ◌++◌, append-nil}
use Rattle.std.proofs.Math.Nat.{mul_assoc, add-mul}
use Rattle.std.proofs.Math.Decide.{dec_lt}
use Rattle.std.proofs.Math.ListN.{length, get_or, take, length-append, get_or-eq_default}
use Rattle.std.proofs.Math.Seq.{take_at, drop-append-add}
use Rattle.arithmetic.specs.Lists.{at, Small, table, joined}
use Rattle.arithmetic.specs.ListLaws.{length-table, get_d_table, part_at}
use Rattle.arithmetic.specs.JoinLaws.{place_of, within, joined_same, joined_length, joined_at, joined-part}
use Rattle.cosine.specs.Kernels.{tabled}
use Rattle.cosine.specs.LengthLaws.{tabled_length}
use Rattle.text.specs.Bytes.{line_feed, blank}
use Rattle.text.specs.Number.{is_number, decimal, printed}
use Rattle.text.specs.NumberLaws.{decimal-most, printed-most}
use Rattle.text.specs.Lines.{index_of, lines, remainder}
use Rattle.text.specs.Columns.{aligned}
use Rattle.text.specs.ColumnLaws.{aligned_long, aligned_front, reads_columns, NoFeed, no_feed_append, no_feed_number, no_feed_blank, no_feed_joined, lines-blocks, remainder-blocks}
use Rattle.orders.specs.declared.Order.{Order}
use Rattle.orders.specs.Orders.{part}
use Rattle.orders.specs.OrderLaws.{part_long}
use Rattle.recording.specs.RecordingLaws.{part_range}
use Rattle.page.specs.Page.{margin, columns, page_of, number_text, block_text, number_in, block_in}

-- every entry of a list of small numbers is small, past its end too
pub small_at : (c : List ℤ) → Small c (2 ^ 29) → (i : ℕ) → nat_abs (at c i) ≤ 2 ^ 29
small_at c s i = go (dec_lt i (length c))
  where
    go : Dec (i < length c) → nat_abs (at c i) ≤ 2 ^ 29
    go (yes p) = s.small i p
    go (no p) = rw (get_or-eq_default c (pos 0) {n = i} (omega arith)) (omega arith)

-- ---- sizes
-- a coefficient has at most ten characters, so that two blanks stand in front of it
pub number-most : (z : ℤ) → nat_abs z ≤ 2 ^ 29 → length (printed z) ≤ 10
number-most z p = printed-most 8 z (omega arith)

pub number_long : (z : ℤ) → nat_abs z ≤ 2 ^ 29 → length (aligned 12 (printed z)) ≡ 12
number_long z p = aligned_long 12 (printed z) (omega (arith, number-most z p))

pub block-most : (b : ℕ) → b ≤ 4095 → length (decimal b) ≤ 8
block-most b p = omega (arith, decimal-most 3 b (omega arith))

pub margin-first : (b j : ℕ) → j ≡ 0 → margin b j ≡ aligned 8 (decimal b)
unfolding margin
margin-first b j e = rw e

pub margin-other : (b j : ℕ) → ¬ (j ≡ 0) → margin b j ≡ aligned 8 []
unfolding margin
margin-other b zero n = absurd (n refl)
margin-other b (suc j) n = refl

-- no text in eight columns: eight blanks
pub blank_margin : replicate 8 blank ≡ aligned 8 []
unfolding aligned
blank_margin = sym (append-nil (replicate 8 blank))

pub ruleset margins = (block-most, margin-first, margin-other, blank_margin)

pub margin_long : (b j : ℕ) → b ≤ 4095 → length (margin b j) ≡ 8
unfolding margin
margin_long b zero p = aligned_long 8 (decimal b) (block-most b p)
margin_long b (suc j) p = aligned_long 8 [] (omega arith)

module _ (b : ℕ) (few : b ≤ 4095) (c : List ℤ) (range : Small c (2 ^ 29)) (j : ℕ) where
  abbrev number : ℕ → List ℕ
  number i = aligned 12 (printed (at c (6 * j + i)))

  each_long : (i : ℕ) → i < 6 → length (number i) ≡ 12
  each_long i p = number_long (at c (6 * j + i)) (small_at c range (6 * j + i))

  pub columns_long : length (columns b c j) ≡ 80
  unfolding columns
  columns_long = length-append (margin b j) (joined 6 number) ∙ omega (arith, margin_long b j few, joined_length number 12 6 each_long 6 (omega arith))

  pub line_long : length (columns b c j ++ (line_feed ∷ [])) ≡ 81
  line_long = length-append (columns b c j) (line_feed ∷ []) ∙ omega (arith, columns_long)

  -- ---- each number is read back from its columns
  field_back : (i : ℕ) → i < 6 → take 12 (drop (8 + 12 * i) (columns b c j)) ≡ number i
  unfolding columns
  field_back i p =
      let m = margin b j in
      let e : 8 + 12 * i ≡ length m + i * 12 = omega (arith, margin_long b j few) in
      ap (λ (k : ℕ). take 12 (drop k (m ++ joined 6 number))) e ∙ ap (take 12) (drop-append-add m (joined 6 number) (i * 12)) ∙ joined-part number 12 6 each_long 6 i (omega arith) p

  number-back : (i : ℕ) → i < 6 → T (is_number 9 (number_text (columns b c j) i)) × (number_in (columns b c j) i ≡ at c (6 * j + i))
  unfolding number_in number_text
  number-back i p = rw (field_back i p) (reads_columns 12 8 (at c (6 * j + i)) (omega (arith, small_at c range (6 * j + i))))

  -- two blanks stand in front of it
  apart_back : (i : ℕ) → i < 6 → take 2 (drop (8 + 12 * i) (columns b c j)) ≡ replicate 2 blank
  apart_back i p =
      let z = at c (6 * j + i) in
      sym (take-take 2 12 (drop (8 + 12 * i) (columns b c j)) (omega arith))
      ∙ ap (take 2) (field_back i p)
      ∙ aligned_front 12 2 (printed z) (omega (arith, number-most z (small_at c range (6 * j + i))))

  -- and columns 1 to 8 are the margin, which on the first line of a block holds its number
  margin-back : take 8 (columns b c j) ≡ margin b j
  unfolding columns
  margin-back = take_at (margin b j) (joined 6 number) 8 (margin_long b j few)

block_back : (b : ℕ) → b ≤ 4095 → (c : List ℤ) → Small c (2 ^ 29) → T (is_number 4 (block_text (columns b c 0))) × (block_in (columns b c 0) ≡ pos b)
unfolding block_in block_text margin printed
block_back b few c range = rw (margin-back b few c range 0) (reads_columns 8 3 (pos b) (omega arith))

-- no column is a line feed
margin_free : (b j : ℕ) → NoFeed (margin b j)
unfolding margin printed
margin_free b zero = no_feed_number 8 (pos b)
margin_free b (suc j) = no_feed_blank 8

pub columns_free : (b : ℕ) (c : List ℤ) (j : ℕ) → NoFeed (columns b c j)
unfolding columns
columns_free b c j = no_feed_append (margin_free b j) (no_feed_joined 6 (λ i. aligned 12 (printed (at c (6 * j + i)))) (λ i p. no_feed_number 12 (at c (6 * j + i))))

-- a line as the code makes it, of six coefficients that it is lent
pub columns-part : (b : ℕ) (c : List ℤ) (j k : ℕ) → k ≡ 6 → j * 6 + 6 ≤ length c → margin b j ++ joined 6 (λ i. aligned 12 (printed (at (take k (drop (j * 6) c)) i))) ≡ columns b c j
unfolding columns
columns-part b c j k e fits =
    ap (λ (l : List ℕ). margin b j ++ l)
    (joined_same 6 (λ i. aligned 12 (printed (at (take k (drop (j * 6) c)) i))) (λ i. aligned 12 (printed (at c (6 * j + i))))
    (λ i p.
    let f : j * 6 + i ≡ 6 * j + i = omega arith in
    ap (λ (z : ℤ). aligned 12 (printed z)) (part_at c (j * 6) k 6 e fits i p ∙ ap (at c) f)))

-- ---- the page, of H + 1 blocks
module _ (order : Order) (N : ℕ) (t : T (tabled N)) (H : ℕ) (most : H ≤ 4095) (x : List ℤ) (long : length x ≡ (H + 1) * (N / 2)) (range : Small x (2 ^ 29)) where
  abbrev L : ℕ
  L = N / 2 / 6

  abbrev c : ℕ → List ℤ
  c b = part order (N / 2) (H + 1) x b

  lines_fit : L * 6 ≡ N / 2
  lines_fit = omega (arith, (tabled_length N t).twelve)

  -- its lines
  pub page_lines : lines (page_of order N H x) ≡ joined (H + 1) (λ b. table L (columns b (c b)))
  unfolding page_of
  page_lines = lines-blocks (H + 1) L (λ b j. columns b (c b) j) (λ b j p q. columns_free b (c b) j)

  pub page_ended : remainder (page_of order N H x) ≡ []
  unfolding page_of
  page_ended = remainder-blocks (H + 1) L (λ b j. columns b (c b) j) (λ b j p q. columns_free b (c b) j)

  sizes : (b : ℕ) → b < H + 1 → length (table L (columns b (c b))) ≡ L
  sizes b p = length-table (columns b (c b)) L

  pub page_count : length (lines (page_of order N H x)) ≡ (H + 1) * L
  page_count = ap length page_lines ∙ joined_length (λ b. table L (columns b (c b))) L (H + 1) sizes (H + 1) (omega arith)

  line_at : (b j : ℕ) → b ≤ H → j < L → get_or (lines (page_of order N H x)) (b * L + j) [] ≡ columns b (c b) j
  line_at b j p q =
      ap (λ (l : List (List ℕ)). get_or l (b * L + j) []) page_lines
      ∙ joined_at (λ b. table L (columns b (c b))) L (H + 1) sizes [] (H + 1) b j (omega arith) (omega arith) q
      ∙ get_d_table (columns b (c b)) [] L j q

  small : (b : ℕ) → b ≤ H → Small (c b) (2 ^ 29)
  small b p = part_range N t (H + 1) order x long range b (omega arith)

  -- its bytes: 81 for each line
  abbrev block : ℕ → List ℕ
  block b = joined L (λ j. columns b (c b) j ++ (line_feed ∷ []))

  line_sizes : (b : ℕ) → b ≤ H → (j : ℕ) → j < L → length (columns b (c b) j ++ (line_feed ∷ [])) ≡ 81
  line_sizes b p j q = line_long b (omega arith) (c b) (small b p) j

  block_sizes : (b : ℕ) → b < H + 1 → length (block b) ≡ L * 81
  block_sizes b p = joined_length (λ j. columns b (c b) j ++ (line_feed ∷ [])) 81 L (line_sizes b (omega arith)) L (omega arith)

  pub page_long : length (page_of order N H x) ≡ (H + 1) * L * 81
  unfolding page_of
  page_long = joined_length block (L * 81) (H + 1) block_sizes (H + 1) (omega arith) ∙ sym (mul_assoc (H + 1) L 81)

  pub byte_at : (b j i : ℕ) → b ≤ H → j < L → i < 81 → get_or (page_of order N H x) ((b * L + j) * 81 + i) 0 ≡ get_or (columns b (c b) j ++ (line_feed ∷ [])) i 0
  unfolding page_of
  byte_at b j i p q r =
      let e : (b * L + j) * 81 + i ≡ b * (L * 81) + (j * 81 + i) = omega (arith, add-mul (b * L) j 81, mul_assoc b L 81) in
      ap (λ (k : ℕ). get_or (joined (H + 1) block) k 0) e
      ∙ joined_at block (L * 81) (H + 1) block_sizes 0 (H + 1) b (j * 81 + i) (omega arith) (omega arith) (omega (arith, within j L 81 q))
      ∙ joined_at (λ j. columns b (c b) j ++ (line_feed ∷ [])) 81 L (line_sizes b p) 0 L j i (omega arith) q r

  pub columns-at : (b j : ℕ) → b ≤ H → j < L → length (get_or (lines (page_of order N H x)) (b * L + j) []) ≡ 80
  columns-at b j p q = ap length (line_at b j p q) ∙ columns_long b (omega arith) (c b) (small b p) j

  -- none of its columns is a line feed
  pub no_feed_at : (b j : ℕ) → b ≤ H → j < L → index_of line_feed (get_or (lines (page_of order N H x)) (b * L + j) []) ≡ 80
  no_feed_at b j p q = ap (index_of line_feed) (line_at b j p q) ∙ (columns_free b (c b) j).none ∙ columns_long b (omega arith) (c b) (small b p) j

  -- number i of line j of block b is its coefficient 6 j + i
  pub number_at : (b j i : ℕ) → b ≤ H → j < L → i < 6 →
      T (is_number 9 (number_text (get_or (lines (page_of order N H x)) (b * L + j) []) i)) × (number_in (get_or (lines (page_of order N H x)) (b * L + j) []) i ≡ at (c b) (6 * j + i))
  number_at b j i p q r =
      let n = number-back b (omega arith) (c b) (small b p) j i r in
      rw (line_at b j p q) n

  pub apart_at : (b j i : ℕ) → b ≤ H → j < L → i < 6 → take 2 (drop (8 + 12 * i) (get_or (lines (page_of order N H x)) (b * L + j) [])) ≡ replicate 2 blank
  apart_at b j i p q r = rw (line_at b j p q) (apart_back b (omega arith) (c b) (small b p) j i r)

  -- the first line of a block has its number, the others have blanks there
  pub block_at : (b : ℕ) → b ≤ H → T (is_number 4 (block_text (get_or (lines (page_of order N H x)) (b * L) []))) × (block_in (get_or (lines (page_of order N H x)) (b * L) []) ≡ pos b)
  block_at b p =
      let e : b * L ≡ b * L + 0 = omega arith in
      let some : 0 < L = omega (arith, lines_fit, (tabled_length N t).twelve, (tabled_length N t).some) in
      rw (e, line_at b 0 p some) (block_back b (omega arith) (c b) (small b p))

  pub blanks_at : (b j : ℕ) → b ≤ H → suc j < L → take 8 (get_or (lines (page_of order N H x)) (b * L + suc j) []) ≡ replicate 8 blank
  unfolding margin aligned
  blanks_at b j p q = ap (take 8) (line_at b (suc j) p q) ∙ margin-back b (omega arith) (c b) (small b p) (suc j) ∙ append-nil (replicate 8 blank)

  -- coefficient k of block b, by its line and its place there
  pub read_back : (b k : ℕ) → b ≤ H → k < N / 2 → number_in (get_or (lines (page_of order N H x)) (b * L + k / 6) []) (k % 6) ≡ at (c b) k
  read_back b k p q =
      let l = place_of 6 L k (omega arith) (omega (arith, lines_fit)) in
      let e : 6 * (k / 6) + k % 6 ≡ k = omega (arith, l.is, mul_comm 6 (k / 6)) in
      (number_at b (k / 6) (k % 6) p l.before l.less).1 ∙ ap (at (c b)) e

-- ---- so two different sets of coefficients give two different pages, in whatever orders they lie
module _ (order order' : Order) (N : ℕ) (t : T (tabled N)) (H : ℕ) (most : H ≤ 4095) (x y : List ℤ) (x_long : length x ≡ (H + 1) * (N / 2)) (y_long : length y ≡ (H + 1) * (N / 2))
    (x_range : Small x (2 ^ 29)) (y_range : Small y (2 ^ 29)) (same : page_of order N H x ≡ page_of order' N H y) where
  pub page_only : (b : ℕ) → b ≤ H → part order (N / 2) (H + 1) x b ≡ part order' (N / 2) (H + 1) y b
  page_only b p =
      ext_get_or (pos 0) (part order (N / 2) (H + 1) x b) (part order' (N / 2) (H + 1) y b) (part_long (N / 2) (H + 1) order x b ∙ sym (part_long (N / 2) (H + 1) order' y b))
      (λ k q. each k (omega (arith, q, part_long (N / 2) (H + 1) order x b)))
    where
      each : (k : ℕ) → k < N / 2 → at (part order (N / 2) (H + 1) x b) k ≡ at (part order' (N / 2) (H + 1) y b) k
      each k q =
          sym (read_back order N t H most x x_long x_range b k p q)
          ∙ ap (λ (s : List ℕ). number_in (get_or (lines s) (b * (N / 2 / 6) + k / 6) []) (k % 6)) same
          ∙ read_back order' N t H most y y_long y_range b k p q
