-- A record in its place: what it shows under another state, what it holds, and that living records keep different AREFs.
use Rattle.std.proofs.Common.{◌≡◌, ℕ, ◌+◌, ◌<◌, ◌≤◌, true, false, cond, leb, ◌⊎◌, length, get_or, set, sym, refl, ap, ◌∙◌, inl, inr, arith}
use Rattle.std.proofs.ByRecursion.{All-get_or}
use Rattle.std.proofs.lemmas.List.{get_or-map, length-map}
use Rattle.std.proofs.lemmas.Bool.{cases_Bool, cond-true, cond-false}
use Rattle.terms.specs.declared.words.State.{State}
use Rattle.terms.specs.Words.{is_living}
use Rattle.journal.specs.Accounts.{Account, held, aside, balance}
use Rattle.law.specs.View.{Entry, living, aref_of, start_of, length_of, nobody, count}
use Rattle.law.specs.Keeps.{Termed}
use Rattle.law.specs.Places.{due_at, in_state}
use Rattle.law.specs.Posting.{holding}
use Rattle.law.specs.Preemption.{wanted}
use Rattle.desk.specs.declared.memory.Desk.{Desk}
use Rattle.desk.specs.declared.record.Record.{Record}
use Rattle.desk.specs.Desks.{view}
use Rattle.desk.specs.Records.{entry_of}
use Rattle.desk.specs.Soundness.{Shows}
use Rattle.posting.specs.declared.sides.Side.TheVariants.{Held}
use Rattle.posting.specs.Sides.{unread, place}
use Rattle.moving.specs.Midway.{Midway}
use Rattle.moving.specs.Moves.{Along}
use Rattle.moving.proofs.FromSound.{gone_shows}
use Rattle.moving.proofs.OnceSeated.{once_restated}
use Rattle.restating.specs.Restatement.{Restated}

module _ (B : Account → ℕ → ℕ) (old : Record) (state : State) (due : ℕ) (new : Record) (r : Restated old state due new) (l : living (entry_of old) ≡ true) (s : Shows B old) where
  restated_shows : Shows B new
  restated_shows = go (cases_Bool (is_living state))
    where
      same_held : (j : ℕ) → is_living state ≡ true → cond (living (entry_of old)) (B (held (aref_of (entry_of old))) (start_of (entry_of old) + j)) 0 ≡ cond (living (entry_of new)) (B (held (aref_of (entry_of new))) (start_of (entry_of new) + j)) 0
      same_held j q = sym (ap (λ (e : Entry). cond (living e) (B (held (aref_of e)) (start_of e + j)) 0) r.what ∙ rw (q, l) refl)

      same_aside : (j : ℕ) → is_living state ≡ true → cond (living (entry_of old)) (B (aside (aref_of (entry_of old)) old.against) (start_of (entry_of old) + j)) 0 ≡ cond (living (entry_of new)) (B (aside (aref_of (entry_of new)) new.against) (start_of (entry_of new) + j)) 0
      same_aside j q = sym (ap (λ (e : Entry). cond (living e) (B (aside (aref_of e) e.against) (start_of e + j)) 0) r.what ∙ rw (q, l) refl)

      go : (is_living state ≡ true) ⊎ (is_living state ≡ false) → Shows B new
      go (inl q) =
          let eh = r.holds ∙ cond-true _ _ _ q in let ea = r.sets_aside ∙ cond-true _ _ _ q in
          record {
            held_days = ap length eh ∙ s.held_days;
            aside_days = ap length ea ∙ s.aside_days;
            holds = λ j b. ap (λ xs. get_or xs j 0) eh ∙ (s.holds j b ∙ same_held j q);
            sets_aside = λ j b. ap (λ xs. get_or xs j 0) ea ∙ (s.sets_aside j b ∙ same_aside j q);
          }
      go (inr q) = gone_shows B new (ap living r.what ∙ q) (r.holds ∙ cond-false _ _ _ q) (r.sets_aside ∙ cond-false _ _ _ q)

-- in a desk midway
module _ (d : Desk) (M : Midway d) (i : ℕ) (h : i < length d.places.now) (l : living (get_or (view d).places i nobody) ≡ true) where
  pub there_is : get_or (view d).places i nobody ≡ entry_of (place d.places.now i)
  there_is = get_or-map entry_of d.places.now i unread nobody h

  module _ (state : State) (due : ℕ) (new : Record) (r : Restated (place d.places.now i) state due new) where
    pub what_is : entry_of new ≡ due_at due (in_state state (get_or (view d).places i nobody))
    what_is = r.what ∙ ap (λ (e : Entry). due_at due (in_state state e)) (sym there_is)

    pub shows_new : Shows (balance (view d).lines) new
    shows_new = restated_shows (balance (view d).lines) (place d.places.now i) state due new r (ap living (sym there_is) ∙ l) (All-get_or _ d.places.now i unread h M.showing.shown.records)

    pub once_new : (a : ℕ) → count a (set (view d).places i (entry_of new)) ≤ 1
    once_new = once_restated (view d).places i (entry_of new) (omega (arith, length-map d.places.now entry_of)) M.once (λ q. (l, ap aref_of what_is))

  -- what its place has on a day of its term is what it holds
  pub holds_is : (k : ℕ) → k < 31 → get_or (place d.places.now i).held k 0 ≡ holding (view d).lines (aref_of (get_or (view d).places i nobody)) (start_of (get_or (view d).places i nobody) + k)
  holds_is k b =
      (All-get_or _ d.places.now i unread h M.showing.shown.records).holds k b
      ∙ (cond-true _ _ 0 (ap living (sym there_is) ∙ l) ∙ ap (λ (e : Entry). holding (view d).lines (aref_of e) (start_of e + k)) (sym there_is))

  module _ (t : Termed (view d).days (get_or (view d).places i nobody)) where
    pub short_term : (place d.places.now i).standing.request.length ≤ 31
    short_term = omega (arith, t.0, ap length_of there_is)

    pub early_term : (place d.places.now i).standing.request.start + (place d.places.now i).standing.request.length ≤ 400
    early_term = omega (arith, t.1, M.days, ap length_of there_is, ap start_of there_is)

    -- on each day of its term the record is there
    pub along_held : Along d (Held i) (place d.places.now i).standing.request.start (place d.places.now i).standing.request.length
    along_held = record {
      at = λ day lo hi. (h, lo, omega (arith, short_term), ap living (sym there_is) ∙ l);
      not_flown = λ q. let z : ◌≡◌ {A = ℕ} 0 1 = cc in omega arith;
      early = early_term;
    }

    -- it has its MW on a day where its place has them
    pub tests_alike : (k : ℕ) → k < length_of (get_or (view d).places i nobody) →
        leb (wanted (get_or (view d).places i nobody).standing.request (start_of (get_or (view d).places i nobody) + k)) (holding (view d).lines (aref_of (get_or (view d).places i nobody)) (start_of (get_or (view d).places i nobody) + k))
        ≡ leb (place d.places.now i).standing.request.mw (get_or (place d.places.now i).held k 0)
    unfolding wanted
    tests_alike k lt =
        ap (λ (e : Entry). leb e.standing.request.mw (holding (view d).lines (aref_of (get_or (view d).places i nobody)) (start_of (get_or (view d).places i nobody) + k))) there_is
        ∙ ap (leb (place d.places.now i).standing.request.mw) (sym (holds_is k (omega (arith, t.0))))
