-- `block_at` meets its contract: the first block, the last one, and one that stands in the samples.
use mathlib.Core.Path.{◌≡◌, sym, ap, ◌∙◌}
use mathlib.Core.Logic.{◌≢◌}
use mathlib.Core.List.{List}
use Prim.Native.Nat.{ℕ, suc, ◌+◌, ◌-◌, ◌*◌, ◌/◌, ◌≤◌}
use native.Mathlib.Nat.{mul-le-mul, mul-le-mul_right, one-mul, suc-mul}
use native.Mathlib.Omega.{arith}
use borrow.Author.Rules.{rules}
use lib.ListN.{length, take, drop}
use lib.IntN.{ℤ}
use Rattle.arithmetic.specs.ListLaws.{part_length}
use Rattle.analysis.specs.Analysis.{coefficients}
use Rattle.analysis.specs.AnalysisLaws.{offered-tabled}
use Rattle.cosine.specs.LengthLaws.{tabled_length}
use Rattle.recording.specs.Recordings.{standing, block}
use Rattle.recording.specs.BlockLaws.{edge, block-first, block_inside, block_last}
use Rattle.recording.specs.RecordingLaws.{Ends, ends}
use Rattle.recording.proofs.block_at.Statement.{statement}
use Rattle.recording.proofs.block_at.Tie as tie

module _ (s : tie.Start) where
  abbrev n : ℕ
  n = s.args.n

  abbrev M : ℕ
  M = n / 2

  abbrev H : ℕ
  H = s.args.hops

  abbrev x : List ℤ
  x = s.args.x.now

  abbrev b : ℕ
  b = s.args.b

  at_ends : Ends n H x
  at_ends = ends n (offered-tabled s.args.route n s.requires.0.0) H s.requires.0.1 x s.requires.1.0

  -- as many places as a recording has
  few : length x ≤ 4095 * 108
  few = omega (arith, s.requires.1.0, mul-le-mul s.requires.0.2 (let h : M ≤ 108 = omega (arith, (tabled_length n (offered-tabled s.args.route n s.requires.0.0)).most) in h))

  covered : b * M ≤ length x
  covered = omega (arith, s.requires.1.0, mul-le-mul_right M s.requires.0.3)

  -- behind the first block
  module _ (some : b ≢ 0) where
    first≤ : M ≤ b * M
    first≤ = omega (arith, mul-le-mul_right M (let h : 1 ≤ b = omega (arith, some) in h), one-mul M)

    -- the last hop
    module _ (e : b ≡ H) where
      abbrev last : List ℤ
      last = take (length x - (b * M - M)) (drop (b * M - M) x)

      last_is : last ≡ drop ((H - 1) * M) x
      last_is = ap (λ (k : ℕ). take (length x - (k * M - M)) (drop (k * M - M) x)) e ∙ at_ends.last_is

      last_long : length last ≡ M
      last_long = ap (λ (k : ℕ). length (take (length x - (k * M - M)) (drop (k * M - M) x))) e ∙ at_ends.last_long

      block_here : block n x b ≡ edge n 0 last
      block_here =
          let f : H ≡ suc (H - 1) = omega (arith, s.requires.0.1) in
          ap (block n x) (e ∙ f) ∙ block_last n H at_ends.two x s.requires.1.0 (H - 1) f ∙ ap (edge n 0) (sym last_is)

    -- a block that stands in the samples
    module _ (less : b ≢ H) where
      one_less : suc (b - 1) ≡ b
      one_less = omega (arith, some)

      from_is : b * M - M ≡ (b - 1) * M
      from_is = omega (arith, suc-mul (b - 1) M, ap (λ (k : ℕ). k * M) one_less)

      ends_inside : b * M - M + n ≤ length x
      ends_inside = omega (arith, s.requires.1.0, mul-le-mul_right M (let h : suc b ≤ H = omega (arith, less, s.requires.0.3) in h), suc-mul b M, at_ends.two, first≤)

      abbrev lent : List ℤ
      lent = take (b * M - M + n - (b * M - M)) (drop (b * M - M) x)

      lent_long : length lent ≡ n
      lent_long = part_length x (b * M - M) (b * M - M + n - (b * M - M)) n (omega arith) ends_inside

      block-inner : block n x b ≡ lent
      unfolding standing
      block-inner =
          let e : b * M - M + n - (b * M - M) ≡ n = omega arith in
          ap (block n x) (sym one_less)
          ∙ block_inside n H at_ends.two x s.requires.1.0 (b - 1) (omega (arith, less, some, s.requires.0.3))
          ∙ rw (e, from_is)

-- ---- block 0
slice_aggregate_edge_block : tie.Need-slice_bounds-edge_block-end
slice_aggregate_edge_block c = sym (at_ends c.before).first_long

edge_block_requires : tie.Need-edge_block-requires
edge_block_requires c κs = let s = c.before.before in (s.requires.0.0, omega arith, (at_ends s).first_long, s.requires.1.1)

same_length : tie.Need-shape_of-out-then-b-eq0
same_length c = search rules

returns : tie.Need-returns-then-b-eq0
returns c =
    let s = c.before.before.before.before in
    let e = c.before.before.before.if-b-eq0.true in
    c.before.edge_block.ensures ∙ ap (coefficients s.args.route (n s) 0 0) (sym (ap (block (n s) (x s)) e ∙ block-first (n s) (H s) (at_ends s).two (x s) s.requires.1.0 s.requires.0.1))

-- ---- those behind it
mul_from : tie.Need-overflow_mul-from
mul_from c = omega (arith, covered c.before, few c.before)

sub_from : tie.Need-overflow_sub-from
sub_from c = omega (arith, first≤ c.before c.if-b-eq0.false)

mul_edge_block : tie.Need-offset_bounds-x-from
mul_edge_block c = let s = c.before.before in omega (arith, covered s, few s)

sub_edge_block : tie.Need-slice_bounds-edge_block-count
sub_edge_block c = let s = c.before.before in omega (arith, covered s, few s)

part_edge_block_start : tie.Need-slice_bounds-edge_block-start
part_edge_block_start c = let s = c.before.before in omega (arith, covered s, few s)

part_edge_block_end : tie.Need-slice_bounds-edge_block-end-then-b-hops
part_edge_block_end c = let s = c.before.before in omega (arith, covered s, few s)

edge_block_requires_2 : tie.Need-edge_block-requires-then-b-hops
edge_block_requires_2 c κs = let t = c.before.before in let s = t.before.before in (s.requires.0.0, omega arith, last_long s t.before.if-b-eq0.false t.if-b-hops.true, s.requires.1.1)

same_length_2 : tie.Need-shape_of-out-then-b-hops
same_length_2 c = search rules

returns_2 : tie.Need-returns-then-b-hops
returns_2 c =
    let t = c.before.before.before.before in
    let s = t.before.before in
    c.before.edge_block-then-b-hops.ensures ∙ ap (coefficients s.args.route (n s) 0 0) (sym (block_here s t.before.if-b-eq0.false t.if-b-hops.true))

add_analyse_block : tie.Need-overflow_add-from
add_analyse_block c = let s = c.before.before in omega (arith, ends_inside s c.before.if-b-eq0.false c.if-b-hops.false, few s)

mul_analyse_block : tie.Need-offset_bounds-x-from-2
mul_analyse_block c = let s = c.before.before in omega (arith, ends_inside s c.before.if-b-eq0.false c.if-b-hops.false, few s)

sub_analyse_block : tie.Need-slice_bounds-analyse_block-count
sub_analyse_block c = omega arith

part_analyse_block_start : tie.Need-slice_bounds-analyse_block-start
part_analyse_block_start c = let s = c.before.before in omega (arith, ends_inside s c.before.if-b-eq0.false c.if-b-hops.false)

part_analyse_block_end : tie.Need-slice_bounds-analyse_block-end
part_analyse_block_end c = let s = c.before.before in omega (arith, ends_inside s c.before.if-b-eq0.false c.if-b-hops.false)

analyse_block_requires : tie.Need-analyse_block-requires
analyse_block_requires c κs = let t = c.before.before in let s = t.before.before in (s.requires.0.0, lent_long s t.before.if-b-eq0.false t.if-b-hops.false, s.requires.1.1)

same_length_3 : tie.Need-shape_of-out
same_length_3 c = search rules

returns_3 : tie.Need-returns
returns_3 c =
    let t = c.before.before.before.before in
    let s = t.before.before in
    c.before.analyse_block.ensures ∙ ap (coefficients s.args.route (n s) 0 0) (sym (block-inner s t.before.if-b-eq0.false t.if-b-hops.false))

pub block_at_spec : {M : Type 1} → statement M
block_at_spec =
    tie.close
    (tie.spec
    slice_aggregate_edge_block
    edge_block_requires
    same_length
    returns
    mul_from
    sub_from
    mul_edge_block
    sub_edge_block
    part_edge_block_start
    part_edge_block_end
    edge_block_requires_2
    same_length_2
    returns_2
    add_analyse_block
    mul_analyse_block
    sub_analyse_block
    part_analyse_block_start
    part_analyse_block_end
    analyse_block_requires
    same_length_3
    returns_3)
