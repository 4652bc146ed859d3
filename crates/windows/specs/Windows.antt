-- What the tables of a window are: definitions.
use Rattle.std.specs.Prelude.{◌≡◌, ◌≢◌, List, ℕ, ◌+◌, ℤ}
use Rattle.windows.specs.HalfLaws.{rise_list, fall_list}

-- the halves of the joints of a block of 2 m, by their shapes: 0 is long, any other is short
pub record IsWindow (m : ℕ) (rise short_rise fall short_fall : List ℤ) : Type 0 where
  pub long_rise : rise ≡ rise_list 0 (m + m)
  pub any_short_rise : (shape : ℕ) → shape ≢ 0 → short_rise ≡ rise_list shape (m + m)
  pub long_fall : fall ≡ fall_list 0 (m + m)
  pub any_short_fall : (shape : ℕ) → shape ≢ 0 → short_fall ≡ fall_list shape (m + m)
