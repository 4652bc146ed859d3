-- `falling` meets its contract: the mirror of the rising half.
use mir.Syntax.{w64}
use mathlib.Core.Path.{sym, ◌∙◌}
use borrow.Author.Rules.{rules}
use mir.Facts.{to_z-of_z}
use Rattle.cosine.specs.LengthLaws.{part_of}
use Rattle.cosine.specs.KernelLaws.{falling_mirror}
use Rattle.cosine.proofs.falling.Statement.{statement}
use Rattle.cosine.proofs.falling.Tie as tie

sub_rising : tie.Need-overflow_sub-n
sub_rising c = search rules

sub_rising_2 : tie.Need-overflow_sub-n-2
sub_rising_2 c = search rules

rising_requires : tie.Need-rising-requires
rising_requires c κs = search rules

returns : tie.Need-returns
returns c =
    let s = c.before in
    to_z-of_z {w = w64} (record { sfits = c.rising.type_inv }) ∙ c.rising.ensures ∙ sym (falling_mirror s.args.n (part_of s.args.n s.requires.1.0) s.args.shape s.args.i s.requires.1.1)

pub falling_spec : {M : Type 1} → statement M
falling_spec = tie.close (tie.spec sub_rising sub_rising_2 rising_requires returns)
