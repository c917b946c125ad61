-- The count of a preemption's lines over the records lined up on a shelf.
use Rattle.std.proofs.Common.{◌≡◌, ℕ, ◌+◌, ◌-◌, ◌<◌, ◌≤◌, min, false, cond, List, [], ◌∷◌, ◌++◌, length, get_or, take, sym, ap, ◌∙◌, subst, arith}
use Rattle.std.proofs.ByRecursion.{All-get_or}
use Rattle.std.proofs.lemmas.List.{length-map, map_more}
use Rattle.terms.specs.declared.words.Kind.TheVariants.{PointToPoint}
use Rattle.terms.specs.declared.words.Product.TheVariants.{Daily}
use Rattle.terms.specs.declared.words.State.TheVariants.{Confirmed}
use Rattle.terms.specs.declared.request.Request.{Request}
use Rattle.shelf.specs.declared.defender.Defender.{Defender}
use Rattle.law.specs.View.{aref_of}
use Rattle.law.specs.Posting.{holding}
use Rattle.desk.specs.declared.memory.Desk.{Desk}
use Rattle.desk.specs.declared.record.Record.{Record}
use Rattle.desk.specs.Desks.{view}
use Rattle.desk.specs.Records.{held_on, entry_of}
use Rattle.desk.specs.Soundness.{Sound}
use Rattle.defending.specs.LinedUp.{entry_at, lined, InPlaces}
use Rattle.defending.specs.Shortage.{gives_whole, lines_written}
use Rattle.defending.proofs.CountingLines.{Counted, counted_more}
use Rattle.defending.proofs.LiningUp.{InPlace}
use Rattle.defending.proofs.ShownInLine.{termed, held_is_holding, holds_in_term}
use Rattle.defending.proofs.ShownInLine.{entry_is as record_is}

-- what is read past the last place
abbrev pub unread : Record
unread = record {
  standing = record {
    request = record { aref = 0; kind = PointToPoint; product = Daily; start = 0; length = 0; mw = 0; preconfirmed = false; price = 0 };
    state = Confirmed;
    queued = 0;
  };
  due = 0;
  against = 0;
  held = [];
  aside = [];
}

-- the entry that comes off after j others, and the record in its place
module _ (d : Desk) (S : Sound d) (xs : List Defender) (there : InPlaces (view d).places xs) (j : ℕ) (here : j < length xs) (x : Defender) (read : x ≡ get_or xs j x) where
  stands : InPlace (view d).places x
  stands = subst (InPlace (view d).places) (sym read) (All-get_or (InPlace (view d).places) xs j x here there)

  pub in_a_place : x.place < length d.places.now
  in_a_place = omega (arith, stands.0, length-map d.places.now entry_of)

  module _ (u : Record) where
    abbrev one : Record
    one = get_or d.places.now x.place u

    pub few_days : (get_or d.places.now x.place u).standing.request.length ≤ 31
    few_days = (termed d S x.place u in_a_place).0

    is_one : entry_at (view d).places x.place ≡ entry_of one
    is_one = record_is d S x.place u in_a_place

    line_more : lined (view d).places (take (j + 1) xs) ≡ lined (view d).places (take j xs) ++ entry_of one ∷ []
    line_more = map_more (λ y. entry_at (view d).places y.place) xs j x here
        ∙ ap (λ e. lined (view d).places (take j xs) ++ e ∷ []) (ap (λ y. entry_at (view d).places y.place) (sym read) ∙ is_one)

    held : (day : ℕ) → held_on day one ≡ holding (view d).lines (aref_of (entry_of one)) day
    held day = held_is_holding d S x.place u in_a_place stands.1 day ∙ ap (λ e. holding (view d).lines (aref_of e) day) is_one

    -- it is visited next
    pub counted_next : (r : Request) (short granted : List ℕ) (lines : ℕ) → Counted r (view d).lines (lined (view d).places (take j xs)) short granted lines → (short' granted' : List ℕ) (written : ℕ) →
        ((k : ℕ) → k < r.length → get_or short' k 0 ≡ get_or short k 0 - held_on (r.start + k) (get_or d.places.now x.place u)) →
        ((k : ℕ) → k < r.length → get_or granted' k 0 ≡ cond (gives_whole (get_or d.places.now x.place u) r short) (min (get_or granted k 0 + held_on (r.start + k) (get_or d.places.now x.place u)) r.mw) (get_or granted k 0)) →
        written ≡ lines_written (get_or d.places.now x.place u) r short → Counted r (view d).lines (lined (view d).places (take (j + 1) xs)) short' granted' (lines + written)
    counted_next r short granted lines C short' granted' written a b c =
        subst (λ ds. Counted r (view d).lines ds short' granted' (lines + written)) (sym line_more)
        (counted_more r (view d).lines one held (holds_in_term d S x.place u in_a_place stands.1) (lined (view d).places (take j xs)) short granted lines C short' granted' written a b c)
