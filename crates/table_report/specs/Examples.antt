-- Lengths and tables with what is printed for them: computed.
use Rattle.std.specs.Prelude.{List, [], ◌∷◌, ℕ, T}
use Rattle.arithmetic.specs.Lists.{every}
use Rattle.cosine.specs.Kernels.{lengths, tabled, short_lengths, short_tabled}
use Rattle.split.specs.ShortRoute as R
use Rattle.double_route.specs.Double as D
use Rattle.analysis.specs.Analysis.{offered, units_of}
use Rattle.checks.specs.Causes.{first_cause}
use Rattle.text.specs.Bytes.{ascii}
use Rattle.text.specs.Number.{is_digit, leading_zero, is_natural, natural_from, natural, is_signed, is_number, value, digits_by, decimal}
use Rattle.text.specs.Refusal.{refusal}
use Rattle.text.specs.Lines.{same_text, in_front, split, ended, unended, lines, remainder, fields, more, line}
use Rattle.steps.specs.Table.{bounded, numbers_of, row_of, malformed, joints, by_lines, verdict, larger, coarsest_in, coarsest}
use Rattle.level_calls.specs.LevelCalls.{told_causes, told_code, half, distance, told}
use Rattle.table_report.specs.Report.{length_in, length_of, saying, distance_line, offered_line, taken_lines, by_table, report_of}

pub record Example : Type 0 where
  pub number : List ℕ
  pub text : List ℕ
  pub prints : List ℕ

abbrev gives : List ℕ → List ℕ → List ℕ → Example
gives n t p = record { number = n; text = t; prints = p }

unfoldable pub examples : List Example
examples =
    gives (ascii "12") (ascii "0,1,64\n2,5,1000\n") (ascii "taken,1000\ndirect,31\nshort,32\n") ∷
    gives (ascii "12") (ascii "0,5,1\n") (ascii "taken,1\ndirect,0\nshort,1\n") ∷
    gives (ascii "72") (ascii "0,35,65536\n") (ascii "taken,65536\ndirect,2048\nshort,2049\ndouble,2050\n") ∷
    gives (ascii "36") (ascii "0,17,1\n") (ascii "taken,1\ndirect,0\nshort,1\ndouble,2\n") ∷
    -- the short route and the double one are not offered
    gives (ascii "108") (ascii "0,53,3\n") (ascii "taken,3\ndirect,0\n") ∷
    gives (ascii "216") (ascii "0,107,65536\n") (ascii "taken,65536\ndirect,2048\n") ∷
    -- no length, whatever the table is
    gives (ascii "") (ascii "0,5,1\n") (ascii "refused,1,0\n") ∷
    gives (ascii "-12") (ascii "0,5,1\n") (ascii "refused,1,0\n") ∷
    gives (ascii "012") (ascii "0,5,1\n") (ascii "refused,1,0\n") ∷
    gives (ascii "12\n") (ascii "0,5,1\n") (ascii "refused,1,0\n") ∷
    gives (ascii "0") (ascii "x") (ascii "refused,1,0\n") ∷
    gives (ascii "144") (ascii "") (ascii "refused,1,0\n") ∷
    -- tables that are turned away
    gives (ascii "12") (ascii "0,1,64\n2,5,65537\n") (ascii "refused,9,2\n") ∷
    gives (ascii "12") (ascii "0,1,64\n3,5,1000\n") (ascii "refused,10,2\n") ∷
    gives (ascii "12") (ascii "0,4,64\n") (ascii "refused,10,0\n") ∷
    gives (ascii "12") (ascii "") (ascii "refused,10,0\n") ∷
    gives (ascii "24") (ascii "0,5,1\n5,11,1\n") (ascii "refused,11,2\n") ∷
    []

pub as_printed : T (every (λ (e : Example). same_text (report_of e.number e.text) e.prints) examples)
unfolding examples every same_text report_of by_table taken_lines offered_line distance_line saying refusal length_of length_in tabled lengths short_tabled short_lengths R.offered D.offered offered units_of told told_code told_causes half distance first_cause verdict by_lines malformed joints row_of numbers_of bounded coarsest coarsest_in larger fields lines remainder split in_front ended unended line more is_number value is_signed natural natural_from is_natural leading_zero is_digit decimal digits_by
as_printed = tt
