-- `clipped` meets its contract: what the clamp leaves fits 32 bits.
use Rattle.std.proofs.Common.{rules, arith, ◌≡◌, to_z, of_z, to_z-of_z, w32, w64}
use Rattle.arithmetic.specs.OrderLaws.{sfits_abs}
use Rattle.levels.specs.Levels.{clipped}
use Rattle.levels.specs.LevelLaws.{clipped_small}
use Rattle.levels.proofs.Clips.{clamp_is}
use Rattle.levels.proofs.clipped.Goals as goal

pub returns : goal.returns
returns c =
    let is : to_z w64 (of_z w64 c.clamp.result) ≡ clipped c.args.z = search (rules, clamp_is) in
    rw is (to_z-of_z (sfits_abs {w = w32} (clipped c.args.z) (omega (arith, clipped_small c.args.z))))
