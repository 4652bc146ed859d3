-- Laws of answers: no refusal has the number of a call that was taken.
use Rattle.std.specs.Prelude.{◌≡◌, refl, eqb, false}
use Rattle.refusals.specs.declared.Refusal.{Refusal}
use Rattle.refusals.specs.declared.Refusal.TheVariants.{Length, Size, Coefficient, Stream, Number, Shape, Line, Gap, Overlap, Distance}
use Rattle.refusals.specs.Answers.{number_of}

pub number_some : (refusal : Refusal) → eqb (number_of refusal) 0 ≡ false
number_some Length = refl
number_some Size = refl
number_some Coefficient = refl
number_some Stream = refl
number_some Number = refl
number_some Shape = refl
number_some Line = refl
number_some Gap = refl
number_some Overlap = refl
number_some Distance = refl
