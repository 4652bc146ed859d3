use Rattle.std.proofs.Common.{arith, refl, ◌∙◌, sym, ◌≡◌, ◌+◌, ◌^◌, ◌*◌, ◌<◌}
use Rattle.std.specs.Prelude.{length}
use native.Mathlib.Nat.{mul-le-mul_right}
use Rattle.arithmetic.specs.Lists.{Small}
use Rattle.arithmetic.specs.ListLaws.{table_ext}
use Rattle.level.specs.Places.{signed_at, sum_at}
use Rattle.level.specs.Levels.{place_at, AreSpots}
use Rattle.level.proofs.Sizes.{signed_size}
use Rattle.level.proofs.Levels.{near_spots, far_spots, y_small, third_small, plus_small, minus_small, sums_small, differences_small, sums_are, differences_are}
use Rattle.level.proofs.by_third.Goals as goal

pub pair_sums-requires : goal.pair_sums-requires
pair_sums-requires g c =
    let z = c.args.z.now in
    let few = c.requires.level.pairs.few in
    let some = c.requires.some in
    let long : length z ≡ g.row.H + (g.row.H + g.row.H) = omega (arith, c.told-z, c.requires.three) in
    let a : g.row.H * 4 < 9223372036854775808 = omega arith in
    let b : g.row.L * 8 < 9223372036854775808 = omega arith in
    (a, (b, y_small c.requires.level z c.every_third.new.y c.every_third.ensures (2 ^ 29) long c.requires.small))

pub gather-requires : goal.gather-requires
gather-requires g c =
    let z = c.args.z.now in
    let few = c.requires.level.pairs.few in
    let some = c.requires.some in
    let three = c.requires.three in
    let long : length z ≡ g.row.H + (g.row.H + g.row.H) = omega (arith, c.told-z) in
    let a : g.row.M * 4 < 9223372036854775808 = omega arith in
    let b : g.row.H * 1 < 9223372036854775808 = omega arith in
    let d : g.row.H * 4 < 9223372036854775808 = omega arith in
    let n : AreSpots g.row.M c.args.level.now.near = rw three (near_spots c.requires.level z c.every_third.new.y c.every_third.ensures) in
    let f : AreSpots g.row.M c.args.level.now.far = rw three (far_spots c.requires.level z c.every_third.new.y c.every_third.ensures) in
    (a, (b, (d, (n, (f, c.requires.small)))))

pub add_products-requires : goal.add_products-requires
add_products-requires g c =
    let z = c.args.z.now in
    let y = c.every_third.new.y in
    let level = c.requires.level in
    let few = level.pairs.few in
    let some = c.requires.some in
    let three = c.requires.three in
    let long : length z ≡ g.row.H + (g.row.H + g.row.H) = omega (arith, c.told-z) in
    let r : Small z (2 ^ 29) = c.requires.small in
    let n = near_spots level z y c.every_third.ensures in
    let f = far_spots level z y c.every_third.ensures in
    let u : Small c.gather.new.a (2 ^ 30) =
    sums_small g.row.H (2 ^ 29) (λ i. signed_at z (place_at c.args.level.now.near i)) (λ i. signed_at z (place_at c.args.level.now.far i)) c.gather.new.a c.gather.ensures.sums
    (λ k p. signed_size z (place_at c.args.level.now.near k) (2 ^ 29) r (let q = n.less k (omega (arith, level.near_long)) in omega arith))
    (λ k p. signed_size z (place_at c.args.level.now.far k) (2 ^ 29) r (let q = f.less k (omega (arith, level.far_long)) in omega arith))
    in
    let t : Small c.pair_sums.new.p (36 * 2 ^ 56) =
    sums_small g.row.L (36 * 2 ^ 55) (λ k. sum_at g.row.H y (place_at g.T.Pairing.near k)) (λ k. sum_at g.row.H y (place_at g.T.Pairing.far k)) c.pair_sums.new.p c.pair_sums.ensures.sums
    (λ k p. omega (arith, third_small level z y c.every_third.ensures long r (place_at g.T.Pairing.near k)))
    (λ k p. omega (arith, third_small level z y c.every_third.ensures long r (place_at g.T.Pairing.far k)))
    in
    let a : g.row.H * 4 < 9223372036854775808 = omega arith in
    let b : g.row.H * (g.row.H * 4) < 9223372036854775808 = omega (arith, mul-le-mul_right (g.row.H * 4) few) in
    let d : g.row.L * 8 < 9223372036854775808 = omega arith in
    let e : g.row.H * 8 < 9223372036854775808 = omega arith in
    (a, (b, (d, (e, (few, (some.1, (u, (plus_small level z y c.every_third.ensures, t))))))))

pub add_products-requires-2 : goal.add_products-requires-2
add_products-requires-2 g c =
    let z = c.args.z.now in
    let y = c.every_third.new.y in
    let level = c.requires.level in
    let few = level.pairs.few in
    let some = c.requires.some in
    let three = c.requires.three in
    let long : length z ≡ g.row.H + (g.row.H + g.row.H) = omega (arith, c.told-z) in
    let r : Small z (2 ^ 29) = c.requires.small in
    let n = near_spots level z y c.every_third.ensures in
    let f = far_spots level z y c.every_third.ensures in
    let u : Small c.gather.new.b (2 ^ 30) =
    differences_small g.row.H (2 ^ 29) (λ i. signed_at z (place_at c.args.level.now.near i)) (λ i. signed_at z (place_at c.args.level.now.far i)) c.gather.new.b c.gather.ensures.differences
    (λ k p. signed_size z (place_at c.args.level.now.near k) (2 ^ 29) r (let q = n.less k (omega (arith, level.near_long)) in omega arith))
    (λ k p. signed_size z (place_at c.args.level.now.far k) (2 ^ 29) r (let q = f.less k (omega (arith, level.far_long)) in omega arith))
    in
    let t : Small c.pair_sums.new.m (36 * 2 ^ 56) =
    differences_small g.row.L (36 * 2 ^ 55) (λ k. sum_at g.row.H y (place_at g.T.Pairing.near k)) (λ k. sum_at g.row.H y (place_at g.T.Pairing.far k)) c.pair_sums.new.m c.pair_sums.ensures.differences
    (λ k p. omega (arith, third_small level z y c.every_third.ensures long r (place_at g.T.Pairing.near k)))
    (λ k p. omega (arith, third_small level z y c.every_third.ensures long r (place_at g.T.Pairing.far k)))
    in
    let a : g.row.H * 4 < 9223372036854775808 = omega arith in
    let b : g.row.H * (g.row.H * 4) < 9223372036854775808 = omega (arith, mul-le-mul_right (g.row.H * 4) few) in
    let d : g.row.L * 8 < 9223372036854775808 = omega arith in
    let e : g.row.H * 8 < 9223372036854775808 = omega arith in
    (a, (b, (d, (e, (few, (some.1, (u, (minus_small level z y c.every_third.ensures, t))))))))

pub returns-clause-sums : goal.returns-clause-sums
returns-clause-sums g c =
    let z = c.args.z.now in
    let y = c.every_third.new.y in
    c.add_products.ensures
    ∙ table_ext g.row.H _ _ (λ k p. sums_are c.requires.level z y c.every_third.ensures c.pair_sums.new.p c.gather.new.a c.requires.some.1 c.pair_sums.ensures.sums c.gather.ensures.sums k p)
    ∙ rw (sym c.requires.three) refl

pub returns-clause-differences : goal.returns-clause-differences
returns-clause-differences g c =
    let z = c.args.z.now in
    let y = c.every_third.new.y in
    c.add_products-2.ensures
    ∙ table_ext g.row.H _ _ (λ k p. differences_are c.requires.level z y c.every_third.ensures c.pair_sums.new.m c.gather.new.b c.requires.some.1 c.pair_sums.ensures.differences c.gather.ensures.differences k p)
    ∙ rw (sym c.requires.three) refl
