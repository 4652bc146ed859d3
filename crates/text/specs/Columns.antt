-- Text in columns: definitions. Document 02, P2.
use Rattle.std.specs.Prelude.{cond, List, [], ◌∷◌, ◌++◌, ℕ, ◌-◌, eqb, length, replicate}
use Rattle.text.specs.Bytes.{blank}

-- text right aligned in w columns: blanks in front of it
unfoldable pub aligned : ℕ → List ℕ → List ℕ
aligned w text = replicate (w - length text) blank ++ text

-- what columns hold: the text behind the blanks in front
unfoldable pub trimmed : List ℕ → List ℕ
trimmed [] = []
trimmed (b ∷ bs) = cond (eqb b blank) (trimmed bs) (b ∷ bs)
