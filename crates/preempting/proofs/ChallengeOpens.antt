-- A record that is challenged in its place.
use Rattle.std.proofs.Common.{◌≡◌, ℕ, ◌+◌, ◌<◌, ◌≤◌, length, get_or, set, replicate, sym, refl, ap, ◌∙◌, arith}
use Rattle.std.proofs.ByRecursion.{All-get_or}
use Rattle.std.proofs.lemmas.List.{length-map, get_or-replicate}
use Rattle.std.proofs.lemmas.Bool.{cond-true}
use Rattle.terms.specs.declared.request.Request.{Request}
use Rattle.terms.specs.declared.words.State.TheVariants.{Challenged}
use Rattle.journal.specs.Accounts.{aside, balance}
use Rattle.law.specs.View.{Entry, aref_of, start_of, living, count}
use Rattle.desk.specs.declared.memory.Desk.{Desk}
use Rattle.desk.specs.declared.record.Record.{Record}
use Rattle.desk.specs.Desks.{view}
use Rattle.desk.specs.Records.{entry_of}
use Rattle.desk.specs.Soundness.{Shows}
use Rattle.posting.specs.Sides.{unread}
use Rattle.defending.specs.LinedUp.{entry_at}
use Rattle.moving.specs.Midway.{Midway}
use Rattle.moving.proofs.OnceSeated.{once_restated}
use Rattle.preempting.specs.Visits.{StandsReady}
use Rattle.preempting.proofs.Shortages.{entry_is}

-- a record as it is when its match is opened
abbrev pub challenged_record : Record → Request → ℕ → Record
challenged_record one r due = record {
  standing = record { request = one.standing.request; state = Challenged; queued = one.standing.queued };
  due = due;
  against = r.aref;
  held = one.held;
  aside = replicate 31 0;
}

module _ (d : Desk) (M : Midway d) (r : Request) (i : ℕ) (h : i < length d.places.now) (ready : StandsReady r (view d) (entry_at (view d).places i)) where
  abbrev one : Record
  one = get_or d.places.now i unread

  same : entry_of one ≡ entry_at (view d).places i
  same = entry_is d M.showing r i h unread ready

  pub challenged_shows : (due : ℕ) → ((day : ℕ) → balance (view d).lines (aside (aref_of (entry_at (view d).places i)) r.aref) day ≡ 0) → Shows (balance (view d).lines) (challenged_record (get_or d.places.now i unread) r due)
  challenged_shows due none =
      let S = All-get_or (Shows (balance (view d).lines)) d.places.now i unread h M.showing.shown.records in
      record {
        held_days = S.held_days;
        aside_days = refl;
        holds = λ j l. S.holds j l ∙ cond-true _ _ _ (ap living same ∙ ready.lives);
        sets_aside = λ j l. get_or-replicate 31 j 0 0 l ∙ sym (ap (λ (e : Entry). balance (view d).lines (aside (aref_of e) r.aref) (start_of (entry_of one) + j)) same ∙ none _);
      }

  pub challenged_once : (due : ℕ) → (a : ℕ) → count a (set (view d).places i (entry_of (challenged_record (get_or d.places.now i unread) r due))) ≤ 1
  challenged_once due = once_restated (view d).places i _ (omega (arith, length-map d.places.now entry_of)) M.once (λ l. (ready.lives, ap aref_of same))
