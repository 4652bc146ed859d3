-- `analyse_by_frequency` meets its contract: tile after tile, the last of which may have fewer than eight blocks.
use Rattle.std.proofs.Common.{arith, ◌≡◌, ◌∙◌, sym, ap, T, ℕ, min, ◌+◌, ◌-◌, ◌*◌, ◌/◌, ◌≤◌, ◌<◌, List, ◌++◌, ℤ, length, take, drop, mul-le-mul, length-append, length-drop, length-take-le, take_at}
use Rattle.arithmetic.specs.Lists.{joined}
use Rattle.analysis.specs.declared.Route.{Route}
use Rattle.analysis.specs.Analysis.{offered, coefficients}
use Rattle.analysis.specs.AnalysisLaws.{offered-tabled, coefficients-length}
use Rattle.cosine.specs.LengthLaws.{tabled_length}
use Rattle.orders.specs.declared.Order.TheVariants.{ByFrequency}
use Rattle.orders.specs.Orders.{tiled, laid}
use Rattle.orders.specs.OrderLaws.{Laid, laid_none, laid_tile, laid-all}
use Rattle.recording.specs.Recordings.{block, analysis}
use Rattle.recording.proofs.analyse_by_frequency.Goals as goal

module _ (route : Route) (n hops : ℕ) (x : List ℤ) (t : T (offered route n)) where
  abbrev M : ℕ
  M = n / 2

  abbrev blocks : ℕ
  blocks = hops + 1

  -- what block b gives
  abbrev g : ℕ → List ℤ
  g b = coefficients route n 0 0 (block n x b)

  small : M ≤ 108
  small = omega (arith, (tabled_length n (offered-tabled route n t)).most)

  -- ---- the tile of the blocks from b on
  module _ (b count : ℕ) (less : b < blocks) (count-is : count ≡ min (blocks - b) 8) where
    fits : b + count ≤ blocks
    fits = omega (arith, count-is)

    size_few : count * M ≤ 8 * 108
    size_few = mul-le-mul (let h : count ≤ 8 = omega (arith, count-is) in h) small

    module _ (tile : List ℤ) (tile_long : length tile ≡ 864) where
      lent_long : length (take (count * M) tile) ≡ count * M
      lent_long = length-take-le (count * M) tile (omega (arith, size_few))

      -- its blocks, in the front of the room
      module _ (made : List ℤ) (is : made ≡ joined count (λ j. g (b + j))) (same : length made ≡ length (take (count * M) tile)) where
        abbrev filled : List ℤ
        filled = made ++ drop (count * M) tile

        front : take (count * M) filled ≡ made
        front = take_at made (drop (count * M) tile) (count * M) (same ∙ lent_long)

        front_long : length (take (count * M) filled) ≡ count * M
        front_long = ap length front ∙ same ∙ lent_long

        filled_long : length filled ≡ 864
        filled_long = length-append made (drop (count * M) tile) ∙ omega (arith, same, lent_long, length-drop (count * M) tile, size_few)

        -- put in their places
        module _ (out u : List ℤ) (so : Laid M blocks ByFrequency g (min b blocks) out) (put : u ≡ tiled ByFrequency M blocks b count (take (count * M) filled) out) where
          after : Laid M blocks ByFrequency g (b + count) u
          after =
              let e : min b blocks ≡ b = omega arith in
              rw (put ∙ ap (λ (l : List ℤ). tiled ByFrequency M blocks b count l out) (front ∙ is))
              (laid_tile M blocks ByFrequency g b count out fits (λ c p. coefficients-length route n 0 0 (block n x c)) (rw e at so))

          more : 8 < blocks - b → Laid M blocks ByFrequency g (min (b + 8) blocks) u
          more h = let e : b + count ≡ min (b + 8) blocks = omega (arith, count-is) in rw e at after

          last : blocks - b ≤ 8 → u ≡ laid ByFrequency M blocks g
          last h = let e : b + count ≡ blocks = omega (arith, count-is) in laid-all M blocks ByFrequency g u (rw e at after)

pub loop-b-init : goal.loop-b-init
loop-b-init c = let e : min 0 (c.args.hops + 1) ≡ 0 = omega arith in rw e (laid_none (c.args.n / 2) (c.args.hops + 1) ByFrequency _ c.args.out.now c.requires.4)

pub overflow_mul-size : goal.overflow_mul-size
overflow_mul-size c =
    let k = size_few c.args.route c.args.n c.args.hops c.args.x.now c.requires.0 c.loop-b.b c.at_most_a_tile-count.result c.loop-b-test.true c.at_most_a_tile-count.ensures in
    record { fits = omega arith }

pub slice_bounds-tile-end : goal.slice_bounds-tile-end
slice_bounds-tile-end c = omega (arith, size_few c.args.route c.args.n c.args.hops c.args.x.now c.requires.0 c.loop-b.b c.at_most_a_tile-count.result c.loop-b-test.true c.at_most_a_tile-count.ensures, c.type_inv.tile)

pub slice_bounds-blocks_from-end : goal.slice_bounds-blocks_from-end
slice_bounds-blocks_from-end c = sym (lent_long c.args.route c.args.n c.args.hops c.args.x.now c.requires.0 c.loop-b.b c.at_most_a_tile-count.result c.loop-b-test.true c.at_most_a_tile-count.ensures c.loop-b.tile c.at_most_a_tile-count.array_long)

pub blocks_from-requires-clause-x_len : goal.blocks_from-requires-clause-x_len
blocks_from-requires-clause-x_len c =
    (c.requires.3, lent_long c.args.route c.args.n c.args.hops c.args.x.now c.requires.0 c.loop-b.b c.at_most_a_tile-count.result c.loop-b-test.true c.at_most_a_tile-count.ensures c.loop-b.tile c.at_most_a_tile-count.array_long)

pub slice_bounds-tile-end-in-loop-b : goal.slice_bounds-tile-end-in-loop-b
slice_bounds-tile-end-in-loop-b c =
    omega (
      arith,
      filled_long c.args.route c.args.n c.args.hops c.args.x.now c.requires.0 c.loop-b.b c.at_most_a_tile-count.result c.loop-b-test.true c.at_most_a_tile-count.ensures c.loop-b.tile c.at_most_a_tile-count.array_long c.blocks_from.new.out c.blocks_from.ensures c.blocks_from.auto.out,
      size_few c.args.route c.args.n c.args.hops c.args.x.now c.requires.0 c.loop-b.b c.at_most_a_tile-count.result c.loop-b-test.true c.at_most_a_tile-count.ensures,
    )

pub slice_bounds-scatter-end : goal.slice_bounds-scatter-end
slice_bounds-scatter-end c = sym (front_long c.args.route c.args.n c.args.hops c.args.x.now c.requires.0 c.loop-b.b c.at_most_a_tile-count.result c.loop-b-test.true c.at_most_a_tile-count.ensures c.loop-b.tile c.at_most_a_tile-count.array_long c.blocks_from.new.out c.blocks_from.ensures c.blocks_from.auto.out)

pub scatter-requires : goal.scatter-requires
scatter-requires c = (
  small c.args.route c.args.n c.args.hops c.args.x.now c.requires.0,
  omega (arith, c.requires.2),
  fits c.args.route c.args.n c.args.hops c.args.x.now c.requires.0 c.loop-b.b c.at_most_a_tile-count.result c.loop-b-test.true c.at_most_a_tile-count.ensures,
  front_long c.args.route c.args.n c.args.hops c.args.x.now c.requires.0 c.loop-b.b c.at_most_a_tile-count.result c.loop-b-test.true c.at_most_a_tile-count.ensures c.loop-b.tile c.at_most_a_tile-count.array_long c.blocks_from.new.out c.blocks_from.ensures c.blocks_from.auto.out,
  c.loop-b.invariant.long,
)

pub loop-b-preserved : goal.loop-b-preserved
loop-b-preserved c =
    more c.args.route c.args.n c.args.hops c.args.x.now c.requires.0 c.loop-b.b c.at_most_a_tile-count.result c.loop-b-test.true c.at_most_a_tile-count.ensures c.loop-b.tile c.at_most_a_tile-count.array_long c.blocks_from.new.out c.blocks_from.ensures c.blocks_from.auto.out c.loop-b.out c.scatter.new.out c.loop-b.invariant c.scatter.ensures (omega arith)

pub returns : goal.returns
unfolding analysis
returns c = let e : min c.loop-b.b (c.args.hops + 1) ≡ c.args.hops + 1 = omega (arith, c.loop-b-test.false) in laid-all (c.args.n / 2) (c.args.hops + 1) ByFrequency _ c.loop-b.out (rw e at c.loop-b.invariant)

pub returns-2 : goal.returns-2
unfolding analysis
returns-2 c =
    last c.args.route c.args.n c.args.hops c.args.x.now c.requires.0 c.loop-b.b c.at_most_a_tile-count.result c.loop-b-test.true c.at_most_a_tile-count.ensures c.loop-b.tile c.at_most_a_tile-count.array_long c.blocks_from.new.out c.blocks_from.ensures c.blocks_from.auto.out c.loop-b.out c.scatter.new.out c.loop-b.invariant c.scatter.ensures (omega arith)
