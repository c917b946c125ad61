-- Every call keeps the journal fine.
use Rattle.std.proofs.Common.{◌≡◌, ℕ, zero, suc, ◌<◌, ◌≤◌, Bool, true, false, cond, ltb, List, [], ◌∷◌, map, length, replicate, refl, arith}
use Rattle.std.specs.List.{AllByRecursion}
use Rattle.std.proofs.ByRecursion.{All-weaker}
use Rattle.std.proofs.lemmas.Bool.{leb-false}
use Rattle.law.specs.Calls
use Rattle.law.specs.Places
use Rattle.law.specs.Preemption
use Rattle.terms.specs.Days.{Days}
use Rattle.terms.specs.declared.request.Request.{Request}
use Rattle.terms.specs.declared.refusal.Refusal.{Refusal}
use Rattle.terms.specs.declared.words.State.{State}
use Rattle.terms.specs.declared.words.State.TheVariants.{Confirmed, Accepted, Offered, Competing, Challenged, Gone}
use Rattle.terms.specs.Words.{is_pending, is_challenged}
use Rattle.sheets.specs.Rules.{Rules}
use Rattle.journal.specs.declared.line.Line.{Line}
use Rattle.law.specs.View.{posted_on, Entry, View, aref_of, nobody, find}
use Rattle.law.specs.Calls.{Call, submit, confirm, withdraw, match, decline, settle, Made, refused, makes, makes_of, new_top, written, step, run}
use Rattle.law.specs.Opened.{postings, opened}
use Rattle.law.specs.Posting.{by_day}
use Rattle.law.proofs.SoundLines.{Fine, fine_wider}
use Rattle.law.proofs.Postings.{postings_only, posting_solvent, posting_names, postings_bring}
use Rattle.law.proofs.SoundPostings.{fine_release, fine_fly, fine_grant, fine_lose, fine_keep, fine_extend, fine_preempt}
use Rattle.law.proofs.AllPlaces.{all_find, all_change, all_seat, all_kept, all_in_turn, all_maps, all_due}

abbrev Small : ℕ → Entry → Type 0
Small n e = (aref_of e ≤ n) × (e.against ≤ n)

pub record Sound (p : ℕ → ℕ) (v : View) : Type 0 where
  pub fine : Fine (suc v.top) p v.lines
  pub low : AllByRecursion (Small v.top) v.places

-- what a call makes is sound with n as the highest AREF
Good : (ℕ → ℕ) → ℕ → Made → Type 0
Good p n (refused c) = Unit {0}
Good p n (makes ls es a s) = Fine (suc n) p ls × AllByRecursion (Small n) es

refuses : (p : ℕ → ℕ) (n : ℕ) (c : Refusal) → Good p n (refused c)
unfolding Good
refuses p n c = tt

good : (p : ℕ → ℕ) (n : ℕ) (ls : List Line) (es : List Entry) (a : ℕ) (s : State) → Fine (suc n) p ls → AllByRecursion (Small n) es → Good p n (makes ls es a s)
unfolding Good
good p n ls es a s f l = (f, l)

good_stop : (p : ℕ → ℕ) (n : ℕ) (b : Bool) (c : Refusal) (m : Made) → (b ≡ false → Good p n m) → Good p n (Calls.stop_if b c m)
unfolding Calls.stop_if Good
good_stop p n true c m f = tt
good_stop p n false c m f = f refl

good_if : (p : ℕ → ℕ) (n : ℕ) (b : Bool) (x y : Made) → (b ≡ true → Good p n x) → (b ≡ false → Good p n y) → Good p n (Calls.if_so b x y)
unfolding Calls.if_so
good_if p n true x y f g = f refl
good_if p n false x y f g = g refl

cond_is : {A : Type 0} (P : A → Type 0) (c : Bool) (x y : A) → P x → P y → P (cond c x y)
cond_is P true x y f g = f
cond_is P false x y f g = g

module _ (R : Rules) (p : ℕ → ℕ) (v : View) (S : Sound p v) where
  low_nobody : Small v.top nobody
  low_nobody = omega arith

  good_let_go : (t : ℕ) (e : Entry) → Small v.top e → Good p v.top (Calls.let_go t e v)
  good_let_go t e l = good p _ _ _ _ _ (fine_release (suc v.top) p t (aref_of e) _ _ v.lines (omega arith) S.fine) (all_change (Small v.top) (aref_of e) Places.leave v.places (λ d h. h) S.low)

  good_flew : (t : ℕ) (e : Entry) → Small v.top e → Good p v.top (Calls.flew t e v)
  good_flew t e l = good p _ _ _ _ _ (fine_fly (suc v.top) p t (aref_of e) _ _ v.lines (omega arith) S.fine) (all_change (Small v.top) (aref_of e) Places.leave v.places (λ d h. h) S.low)

  low_close : (t n b : ℕ) (ls : List Line) (es : List Entry) → AllByRecursion (Small n) es → AllByRecursion (Small n) (Calls.close_if_last R t ls b es)
  low_close t n b ls es h = cond_is (AllByRecursion (Small n)) (Places.match_open es) es _ h (all_change (Small n) b (Calls.close R t ls) es (λ e q. cond_is (Small n) (is_pending (Calls.closed_state ls e)) _ _ q q) h)

  good_declined : (t : ℕ) (e : Entry) → Small v.top e → Good p v.top (Calls.declined R t e v)
  good_declined t e l = good p _ _ _ _ _ (fine_lose (suc v.top) p t (aref_of e) e.against _ _ v.lines (omega arith) (omega arith) S.fine)
      (low_close t v.top e.against _ _ (all_change (Small v.top) (aref_of e) _ v.places (λ d h. h) S.low))

  good_matched : (t : ℕ) (e : Entry) → Small v.top e → Good p v.top (Calls.matched R t e v)
  good_matched t e l = good_stop p v.top _ _ _ (λ _.
      good p _ _ _ _ _ (fine_extend (suc v.top) p t _ (aref_of e) e.against _ _ _ (omega arith) (omega arith)
      (fine_keep (suc v.top) p t (aref_of e) e.against _ _ v.lines (omega arith) (omega arith) S.fine))
      (low_close t v.top e.against _ _ (all_change (Small v.top) (aref_of e) _ v.places (λ d h. (l.0, omega arith)) S.low)))

  good_settles : (t : ℕ) (e : Entry) (s : State) → Small v.top e → Good p v.top (Calls.settles R t e v s)
  good_settles t e Confirmed l = good_flew t e l
  good_settles t e Accepted l = good_let_go t e l
  good_settles t e Offered l = good_let_go t e l
  good_settles t e Competing l = refuses p _ _
  good_settles t e Challenged l = good_declined t e l
  good_settles t e Gone l = refuses p _ _

  good_by_aref : (q : State → Bool) (a : ℕ) (f : Entry → Made) → ((e : Entry) → Small v.top e → Good p v.top (f e)) → Good p v.top (Calls.by_aref q a v f)
  good_by_aref q a f h = good_stop p v.top _ _ _ (λ _. good_stop p v.top _ _ _ (λ _. h (find a v.places) (all_find (Small v.top) a v.places low_nobody S.low)))

  good_entered : (t : ℕ) (r : Request) (s : State) (ls : List Line) (es : List Entry) → Fine (suc r.aref) p ls → AllByRecursion (Small r.aref) es → Good p r.aref (Calls.entered R t r s ls es)
  good_entered t r s ls es f l = good p _ _ _ _ _ f (all_seat (Small r.aref) _ es (omega arith) l)

  low_after : (t : ℕ) (r : Request) (ls : List Line) → AllByRecursion (Small r.aref) v.places → AllByRecursion (Small r.aref) (map (Preemption.after_preempt R t r v ls) v.places)
  low_after t r ls l = all_maps (Small r.aref) _ v.places (λ e h.
      cond_is (Small r.aref) (Preemption.defends R t r v.days e) _ _ (cond_is (Small r.aref) (Preemption.none_aside ls r.aref e) _ _ (cond_is (Small r.aref) (Preemption.empty ls e) _ _ h h) (h.0, omega arith)) h) l

  good_submitted : (t : ℕ) (r : Request) → Good p r.aref (Calls.submitted R t r v)
  good_submitted t r =
      good_stop p r.aref _ _ _ (λ above.
      let up : v.top < r.aref = leb-false r.aref v.top above in
      let f : Fine (suc r.aref) p v.lines = fine_wider _ _ p v.lines (omega arith) S.fine in
      let l : AllByRecursion (Small r.aref) v.places = All-weaker _ _ (λ e h. omega arith) v.places S.low in
      let g : Fine (suc r.aref) p (by_day (Preemption.grant t r) r.start r.length v.lines) = fine_grant (suc r.aref) p t r _ _ v.lines (omega arith) f in
      let ds : AllByRecursion (λ d. aref_of d < suc r.aref) (Preemption.defenders R t r v) = all_in_turn (λ d. aref_of d < suc r.aref) R _ (all_kept (λ d. aref_of d < suc r.aref) _ v.places (All-weaker _ _ (λ e h. omega arith) v.places l)) in
      good_stop p r.aref _ _ _ (λ _. good_stop p r.aref _ _ _ (λ _. good_stop p r.aref _ _ _ (λ _.
      good_if p r.aref _ _ _ (λ _. good_entered t r _ _ _ g l) (λ _.
      good_stop p r.aref _ _ _ (λ _.
      good_if p r.aref _ _ _ (λ _. good_entered t r _ _ _ (fine_preempt (suc r.aref) p R t r v (omega arith) ds f) (low_after t r _ l)) (λ _.
      good_stop p r.aref _ _ _ (λ _. good_entered t r Offered _ _ g l))))))))

  good_made : (c : Call) → Good p (new_top c v.top) (makes_of R c v)
  good_made (submit t r) = good_submitted t r
  good_made (confirm t a) = good_by_aref is_pending a _ (λ e l. good p _ _ _ a Confirmed S.fine (all_change (Small v.top) a Places.stand_confirmed v.places (λ d h. h) S.low))
  good_made (withdraw t a) = good_by_aref is_pending a _ (λ e l. good_let_go t e l)
  good_made (match t a) = good_by_aref is_challenged a _ (λ e l. good_matched t e l)
  good_made (decline t a) = good_by_aref is_challenged a _ (λ e l. good_declined t e l)
  good_made (settle t) = good_settles t (Calls.first_due t v.places) _ (all_due (Small v.top) t v.places low_nobody S.low)

  sound_written : (c : Call) (m : Made) → Good p (new_top c v.top) m → Sound p (written c v m).1
  unfolding Good
  sound_written c (refused x) g = S
  sound_written c (makes ls es a s) g = cond_is (λ (w : Calls.Answer × View). Sound p w.1) (ltb v.room (length ls)) _ _ S (record { fine = g.0; low = g.1 })

  pub sound_step : (c : Call) → Sound p (step R c v).1
  unfolding step
  sound_step c = sound_written c (Calls.asked R c v) (good_stop p _ _ _ _ (λ _. good_stop p _ _ _ _ (λ _. good_made c)))

pub sound_run : (R : Rules) (p : ℕ → ℕ) (cs : List Call) (v : View) → Sound p v → Sound p (run R cs v)
unfolding run
sound_run R p [] v S = S
sound_run R p (c ∷ cs) v S = sound_run R p cs (step R c v).1 (sound_step R p v S c)

low_places : (n : ℕ) → AllByRecursion (Small 0) (replicate n nobody)
low_places zero = tt
low_places (suc n) = (omega arith, low_places n)

fine_opened : (days : Days) → Fine 1 (posted_on days) (postings 0 days.amounts)
fine_opened days =
    let P = postings 0 days.amounts in let only = postings_only 0 days.amounts in
    record { solvent = posting_solvent P only; names = posting_names P only; whole = postings_bring days.amounts }

pub sound_opened : (days : Days) (places room : ℕ) → Sound (posted_on days) (opened days places room)
sound_opened days places room = record { fine = fine_opened days; low = low_places places }
