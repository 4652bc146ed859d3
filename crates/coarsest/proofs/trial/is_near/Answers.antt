-- `is_near` meets its contract: the pairs are those of each place.
use Rattle.std.proofs.Common.{rules, tests, ◌∙◌, leb, nat_abs, ◌-ℤ◌, ℤ}
use Rattle.std.proofs.lemmas.Iterator.{YieldsList-from_slice, YieldsList-from_zip}
use Rattle.std.proofs.lemmas.Iterator.Search.{all_from_yields_List}
use Rattle.coarsest.proofs.Pairs.{all_zipped}
use Rattle.coarsest.proofs.trial.is_near.Goals as goal

pub returns : goal.returns
returns c =
    all_from_yields_List (λ (p : ℤ × ℤ). leb (nat_abs (p.0 -ℤ p.1)) c.args.allowed) c.all.new.self _ _ c.all.ensures.ran
    (YieldsList-from_zip (YieldsList-from_slice c.args.hop.now cc) (YieldsList-from_slice c.args.own.now cc)) (λ p b q k. search (rules, tests))
    ∙ all_zipped (λ a b. leb (nat_abs (a -ℤ b)) c.args.allowed) c.args.hop.now c.args.own.now c.requires
