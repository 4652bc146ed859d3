-- The tables of a window by computing: what the table of 217 numbers gives.
use Rattle.std.specs.Prelude.{refl, true, false, ℕ, ◌+◌, T}
use Rattle.cosine.specs.Kernels.{tabled}
use Rattle.windows.specs.HalfLaws.{rise_numbers, fall_numbers, rise_long, rise_short, fall_long, fall_short}
use Rattle.windows.specs.Windows.{IsWindow}

pub window_of : (m : ℕ) → T (tabled (m + m)) → IsWindow m (rise_numbers true (m + m)) (rise_numbers false (m + m)) (fall_numbers true (m + m)) (fall_numbers false (m + m))
window_of m t =
    record {
      long_rise = rise_long 0 (m + m) refl;
      any_short_rise = λ shape n. rise_short shape (m + m) n;
      long_fall = fall_long 0 (m + m) t refl;
      any_short_fall = λ shape n. fall_short shape (m + m) t n;
    }
