-- Laws of whole recordings: where a hop lies, the first hop and the last, the coefficients of a block, and the stream after b steps.
use Rattle.std.specs.Prelude.{◌≡◌, List, ℕ, ◌+◌, ◌-◌, ◌*◌, ◌/◌, ◌^◌, ◌≤◌, ◌<◌, T, length, take, drop, ℤ}
use Rattle.std.proofs.Common.{sym, ap, ◌∙◌, add-mul, one-mul, mul-le-mul, mul-le-mul_right, arith, length-drop, length-take-le, take_all}
use Rattle.arithmetic.specs.Lists.{Small}
use Rattle.cosine.specs.Kernels.{tabled}
use Rattle.cosine.specs.LengthLaws.{tabled_length}
use Rattle.stream.specs.Synthesis.{storage}
use Rattle.stream.specs.Steps.{stream_after}
use Rattle.stream.specs.NextLaws as S
use Rattle.stream.specs.NextLaws.{Fine}
use Rattle.orders.specs.declared.Order.{Order}
use Rattle.orders.specs.Orders.{part}
use Rattle.orders.specs.OrderLaws.{part_long, part_small}
use Rattle.arithmetic.specs.JoinLaws.{within}

-- ---- where hop h of H lies, in so many places
pub record Lies (N H places h : ℕ) : Type 0 where
  pub ends : h * (N / 2) + N / 2 ≤ places
  pub few : places ≤ 4095 * storage

pub lies : (N : ℕ) → T (tabled N) → (H places h : ℕ) → H ≤ 4095 → places ≡ H * (N / 2) → h < H → Lies N H places h
lies N t H places h most p less =
    let hm : N / 2 ≤ storage = omega (arith, (tabled_length N t).most) in
    record { ends = omega (arith, within h H (N / 2) less, p); few = omega (arith, p, mul-le-mul most hm) }

-- the first hop of a recording and its last, as the code lends them
pub record Ends (N H : ℕ) (x : List ℤ) : Type 0 where
  pub two : N / 2 + N / 2 ≡ N
  pub first_long : length (take (N / 2) x) ≡ N / 2
  pub last_is : take (length x - (H * (N / 2) - N / 2)) (drop (H * (N / 2) - N / 2) x) ≡ drop ((H - 1) * (N / 2)) x
  pub last_long : length (take (length x - (H * (N / 2) - N / 2)) (drop (H * (N / 2) - N / 2) x)) ≡ N / 2

pub ends : (N : ℕ) → T (tabled N) → (H : ℕ) → 1 ≤ H → (x : List ℤ) → length x ≡ H * (N / 2) → Ends N H x
ends N t H some x long =
    let M = N / 2 in
    let first≤ : M ≤ H * M = omega (arith, mul-le-mul_right M some, one-mul M) in
    let e : H - 1 + 1 ≡ H = omega arith in
    let fewer : (H - 1) * M + M ≡ H * M = sym (rw e at (add-mul (H - 1) 1 M) ∙ omega (arith, one-mul M)) in
    let at : H * M - M ≡ (H - 1) * M = omega (arith, fewer) in
    let is : take (length x - (H * M - M)) (drop (H * M - M) x) ≡ drop ((H - 1) * M) x =
    rw at (take_all (length x - (H - 1) * M) (drop ((H - 1) * M) x) (omega (arith, length-drop ((H - 1) * M) x))) in
    record {
      two = omega (arith, (tabled_length N t).twelve);
      first_long = length-take-le M x (omega (arith, long, first≤));
      last_is = is;
      last_long = ap length is ∙ length-drop ((H - 1) * M) x ∙ omega (arith, long, fewer);
    }

-- ---- on coefficients in range
module _ (N : ℕ) (t : T (tabled N)) (B : ℕ) (order : Order) (X : List ℤ) (long : length X ≡ B * (N / 2)) (range : Small X (2 ^ 29)) where
  pub part_range : (b : ℕ) → b < B → Small (part order (N / 2) B X b) (2 ^ 29)
  part_range = part_small (N / 2) B order X long (2 ^ 29) range

  pub stream_fine : (b : ℕ) → b ≤ B → Fine N (stream_after N (part order (N / 2) B X) b)
  stream_fine = S.stream_fine N (part order (N / 2) B X) t B (λ b less k q. (part_range b less).small k (omega (arith, q, part_long (N / 2) B order X b)))
