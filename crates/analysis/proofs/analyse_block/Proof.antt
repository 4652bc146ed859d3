-- `analyse_block` meets its contract: each route by its own crate.
use mathlib.Core.Path.{◌≡◌}
use Rattle.analysis.specs.declared.Route.TheVariants.{Direct, Short, Double}
use Rattle.analysis.specs.Analysis.{offered, spectrum, coefficients}
use borrow.Author.Rules.{rules}
use Rattle.analysis.proofs.analyse_block.Statement.{statement}
use Rattle.analysis.proofs.analyse_block.Tie as tie

enum_told : tie.Need-enum_told-1
enum_told c = search rules

analyse_requires : tie.Need-analyse-requires
unfolding offered
analyse_requires c κs =
    let a = c.before.before.args in
    let q = c.before.before.requires in
    let e : a.route ≡ Direct = c.before.in-Direct.is in
    (rw e at q.0, q.1, q.2)

enum_told_2 : tie.Need-enum_told-in-Short
enum_told_2 c = search rules

analyse_requires_2 : tie.Need-analyse-requires-in-Short
unfolding offered
analyse_requires_2 c κs =
    let a = c.before.before.args in
    let q = c.before.before.requires in
    let e : a.route ≡ Short = c.before.in-Short.is in
    (rw e at q.0, q.1, q.2)

enum_told_3 : tie.Need-enum_told-in-Double
enum_told_3 c = search rules

analyse_requires_3 : tie.Need-analyse-requires-in-Double
unfolding offered
analyse_requires_3 c κs =
    let a = c.before.before.args in
    let q = c.before.before.requires in
    let e : a.route ≡ Double = c.before.in-Double.is in
    (rw e at q.0, q.1, q.2)

same_length : tie.Need-shape_of-out-in-Direct
same_length c = search rules

returns : tie.Need-returns-in-Direct
unfolding coefficients spectrum
returns c =
    let e : c.before.before.before.before.args.route ≡ Direct = c.before.before.before.in-Direct.is in
    rw e c.before.analyse.ensures

same_length_2 : tie.Need-shape_of-out-in-Short
same_length_2 c = search rules

returns_2 : tie.Need-returns-in-Short
unfolding coefficients spectrum
returns_2 c =
    let e : c.before.before.before.before.args.route ≡ Short = c.before.before.before.in-Short.is in
    rw e c.before.analyse-in-Short.ensures

same_length_3 : tie.Need-shape_of-out-in-Double
same_length_3 c = search rules

returns_3 : tie.Need-returns-in-Double
unfolding coefficients spectrum
returns_3 c =
    let e : c.before.before.before.before.args.route ≡ Double = c.before.before.before.in-Double.is in
    rw e c.before.analyse-in-Double.ensures

pub analyse_block_spec : {M : Type 1} → statement M
analyse_block_spec =
    tie.close
    (tie.spec
    enum_told
    analyse_requires
    enum_told_2
    analyse_requires_2
    enum_told_3
    analyse_requires_3
    same_length
    returns
    same_length_2
    returns_2
    same_length_3
    returns_3)
