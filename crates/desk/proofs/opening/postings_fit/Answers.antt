use Rattle.std.proofs.Common.{◌≡◌, ℕ, suc, ◌+◌, ◌<◌, Bool, ◌&&◌, leb, List, [], ◌∷◌, length, get_or, drop, refl, ap, ◌∙◌, add-one, arith, rules, tests}
use Rattle.std.specs.List.{list_all, enumerate_from, zip}
use Rattle.std.proofs.lemmas.List.{drop_more}
use Rattle.std.proofs.lemmas.Iterator.{YieldsList-from_slice, YieldsList-from_zip}
use Rattle.std.proofs.lemmas.Iterator.Consumers.{YieldsList-from_enumerate}
use Rattle.std.proofs.lemmas.Iterator.Search.{all_from_yields_List}
use Rattle.desk.specs.Opening.{postings_fit}
use Rattle.desk.proofs.opening.postings_fit.Goals as goal

-- is a day's amount at most 20,000 MW, and its preschedule day no later than itself?
abbrev fits_on : ℕ × (ℕ × ℕ) → Bool
fits_on (day, (mw, preschedule_day)) = leb mw 20000 && leb preschedule_day day

-- the days from k on, each with its amount and its preschedule day, fit as the postings do
fit_by_pairs : (day : ℕ) (amounts preschedule : List ℕ) → length preschedule ≡ day + length amounts →
    list_all fits_on (enumerate_from day (zip amounts (drop day preschedule))) ≡ postings_fit day amounts preschedule
fit_by_pairs day [] preschedule h = refl
fit_by_pairs day (mw ∷ amounts) preschedule h =
    let here : day < length preschedule = omega arith in
    rw (drop_more preschedule day 0 here, add-one) (ap (λ b. fits_on (day, (mw, get_or preschedule day 0)) && b) (fit_by_pairs (suc day) amounts preschedule (omega arith)))

pub returns : goal.returns
returns c =
    let amounts = c.args.amounts.now in let preschedule = c.args.preschedule.now in
    all_from_yields_List fits_on c.all.new.self _ _ c.all.ensures.ran
    (YieldsList-from_enumerate (YieldsList-from_zip (YieldsList-from_slice amounts cc) (YieldsList-from_slice preschedule cc)) cc)
    (λ x b q k. search (rules, tests))
    ∙ fit_by_pairs 0 amounts preschedule (omega arith)
