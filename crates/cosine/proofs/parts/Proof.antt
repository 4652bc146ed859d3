-- `parts` meets its contract: one number for each length.
use Rattle.cosine.specs.LengthLaws.{last-length}
use Rattle.cosine.proofs.parts.Statement.{statement}
use Rattle.cosine.proofs.parts.Tie as tie

returns : tie.Need-returns-then-n-eq12
returns c = rw c.if-n-eq12.true

returns_2 : tie.Need-returns-then-n-eq24
returns_2 c = rw c.if-n-eq24.true

returns_3 : tie.Need-returns-then-n-eq36
returns_3 c = rw c.if-n-eq36.true

returns_4 : tie.Need-returns-then-n-eq72
returns_4 c = rw c.if-n-eq72.true

returns_5 : tie.Need-returns-then-n-eq108
returns_5 c = rw c.if-n-eq108.true

returns_6 : tie.Need-returns
returns_6 c =
    let d = c.before in
    let e = d.before in
    let f = e.before in
    let g = f.before in
    let s = g.before in
    rw (last-length s.args.n s.requires g.if-n-eq12.false f.if-n-eq24.false e.if-n-eq36.false d.if-n-eq72.false c.if-n-eq108.false)

pub parts_spec : {M : Type 1} → statement M
parts_spec = tie.close (tie.spec returns returns_2 returns_3 returns_4 returns_5 returns_6)
