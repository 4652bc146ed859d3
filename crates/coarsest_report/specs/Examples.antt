-- Distances, budgets and listings with what is printed for them: computed. No step is tried in them.
use Rattle.std.specs.Prelude.{List, [], ◌∷◌, ℕ, T}
use Rattle.arithmetic.specs.Lists.{every}
use Rattle.cosine.specs.Kernels.{lengths, tabled}
use Rattle.checks.specs.Limits.{counted}
use Rattle.checks.specs.Causes.{first_cause}
use Rattle.text.specs.Bytes.{ascii}
use Rattle.text.specs.Number.{is_digit, leading_zero, is_natural, natural_from, natural, is_signed, is_number, value, digits_by, decimal}
use Rattle.text.specs.Lines.{same_text, in_front, split, ended, unended, lines, remainder, fields, more, line}
use Rattle.text.specs.Refusal.{refusal}
use Rattle.listing.specs.Hops.{is_sample, is_hop, samples}
use Rattle.listing.specs.Verdicts.{by_hops, by_length, by_lines, verdict, hops_of}
use Rattle.listing.specs.Listing.{recording}
use Rattle.step_search.specs.Search.{sure, searched, course, found}
use Rattle.coarsest.specs.Coarsest.{coarsest}
use Rattle.coarsest_calls.specs.CoarsestCalls.{coarsest_causes, coarsest_code, coarsest_answer}
use Rattle.coarsest_report.specs.Report.{is_whole, whole_of, distance_of, found_lines, answer_of, report_of}

pub record Example : Type 0 where
  pub distance : List ℕ
  pub budget : List ℕ
  pub text : List ℕ
  pub prints : List ℕ

abbrev gives : List ℕ → List ℕ → List ℕ → List ℕ → Example
gives d b t p = record { distance = d; budget = b; text = t; prints = p }

-- one hop at N = 12
abbrev hop : List ℕ
hop = ascii "12\n7,-8,32767,-32768,1,0\n"

unfoldable pub examples : List Example
examples =
    gives (ascii "32") (ascii "0") hop (ascii "step,trials,untried\n1024,0,0\n") ∷
    gives (ascii "32") (ascii "2000") hop (ascii "step,trials,untried\n1024,0,0\n") ∷
    gives (ascii "31") (ascii "0") hop (ascii "step,trials,untried\n1007,0,17\n") ∷
    gives (ascii "0") (ascii "0") hop (ascii "step,trials,untried\n15,0,1009\n") ∷
    -- a listing is refused as round-trip refuses it, whatever the distance is
    gives (ascii "33") (ascii "0") (ascii "12\n7,-8,32767,-32769,1,0\n") (ascii "refused,5,2\n") ∷
    gives (ascii "33") (ascii "0") (ascii "13\n") (ascii "refused,1,1\n") ∷
    gives (ascii "0") (ascii "0") (ascii "") (ascii "refused,5,1\n") ∷
    -- no hops, before the distance
    gives (ascii "33") (ascii "0") (ascii "12\n") (ascii "refused,2,0\n") ∷
    -- distances that are none, or too large
    gives (ascii "33") (ascii "0") hop (ascii "refused,12,0\n") ∷
    gives (ascii "99999") (ascii "0") hop (ascii "refused,12,0\n") ∷
    gives (ascii "100000") (ascii "0") hop (ascii "refused,12,0\n") ∷
    gives (ascii "-1") (ascii "0") hop (ascii "refused,12,0\n") ∷
    gives (ascii "032") (ascii "0") hop (ascii "refused,12,0\n") ∷
    gives (ascii "") (ascii "0") hop (ascii "refused,12,0\n") ∷
    []

pub as_printed : T (every (λ (e : Example). same_text (report_of e.distance e.budget e.text) e.prints) examples)
unfolding examples every same_text report_of answer_of found_lines distance_of whole_of is_whole coarsest_answer coarsest_code coarsest_causes coarsest found course searched sure first_cause counted tabled lengths recording hops_of samples verdict by_lines by_length by_hops is_hop is_sample refusal fields lines remainder split in_front ended unended line more is_number value is_signed natural natural_from is_natural leading_zero is_digit decimal digits_by
as_printed = tt
