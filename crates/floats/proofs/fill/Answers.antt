-- `fill` meets its contract: the first k floats are written.
use Rattle.std.proofs.Common.{rules, arith, ◌≡◌, ◌∙◌, sym, ap, ℕ, length}
use Rattle.arithmetic.specs.Lists.{at, table}
use Rattle.arithmetic.specs.ListLaws.{filled_none, filled_more, filled-all}
use Rattle.floats.specs.Floats.{sixty_fourth, floats_of}
use Rattle.floats.proofs.fill.Goals as goal

pub loop-k-init : goal.loop-k-init
loop-k-init c = filled_none _ _

pub loop-k-preserved : goal.loop-k-preserved
loop-k-preserved c =
    let value : c.sixty_fourth.result ≡ sixty_fourth (at c.args.x.now c.loop-k.k) = search rules in
    filled_more _ c.loop-k.k c.loop-k.out _ c.sixty_fourth.result c.loop-k.invariant (omega (arith, c.loop-k.invariant.room)) value

pub returns : goal.returns
unfolding floats_of
returns c =
    let end : c.loop-k.k ≡ length c.args.x.now = omega (arith, c.loop-k.invariant.room) in
    filled-all _ c.loop-k.k c.loop-k.out c.args.out.now c.loop-k.invariant (c.requires ∙ sym end) ∙ ap (λ (m : ℕ). table m (λ j. sixty_fourth (at c.args.x.now j))) end
