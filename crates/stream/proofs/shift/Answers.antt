use Rattle.std.specs.Prelude.{◌≡◌, ◌++◌, ◌+◌, ◌-◌, ◌*◌, ◌<◌, ◌≤◌, List, ℕ, length, drop, take, ℤ, pos}
use Rattle.std.proofs.Common.{arith, ap, sym, ◌∙◌, ext_get_or}
use Rattle.arithmetic.specs.Lists.{at, table}
use Rattle.arithmetic.specs.ListLaws.{length-table, get_d_table, part_length, part_at}
use Rattle.stream.proofs.shift.Goals as goal

-- the second half of 2 m numbers
second : (v : List ℤ) (m : ℕ) → 2 * m ≤ length v → take (2 * m - m) (drop m v) ≡ table m (λ i. at v (m + i))
second v m room =
    let e : 2 * m - m ≡ m = omega arith in
    let l = part_length v m (2 * m - m) m e (omega (arith, room)) in
    ext_get_or (pos 0) (take (2 * m - m) (drop m v)) (table m (λ i. at v (m + i))) (l ∙ sym (length-table (λ i. at v (m + i)) m))
    (λ i p. let q : i < m = omega (arith, l) in part_at v m (2 * m - m) m e (omega (arith, room)) i q ∙ sym (get_d_table (λ i. at v (m + i)) (pos 0) m i q))

pub returns : goal.returns
returns c = ap (λ (l : List ℤ). l ++ drop c.args.m c.args.tail.now) (c.copy_from_slice.ensures.after ∙ second c.args.v.now c.args.m c.requires.v_room)
