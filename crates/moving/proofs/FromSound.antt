-- What a sound desk gives to the postings of a call, and moves that take all there is.
use Rattle.std.proofs.Common.{◌≡◌, ℕ, zero, suc, ◌+◌, ◌<◌, ◌≤◌, min, false, List, length, get_or, replicate, sym, refl, ap, ◌∙◌, arith}
use Rattle.std.proofs.lemmas.List.{get_or-replicate}
use Rattle.std.proofs.lemmas.Bool.{cond-false}
use Rattle.journal.specs.declared.line.Line.{Line}
use Rattle.journal.specs.declared.line.LineKind.{LineKind}
use Rattle.journal.specs.Accounts.{Account, sort, from, balance}
use Rattle.law.specs.View.{living, posted_on}
use Rattle.law.specs.Posting.{post, by_day}
use Rattle.law.proofs.SoundLines.{Fine, fine_post}
use Rattle.desk.specs.declared.memory.Desk.{Desk}
use Rattle.desk.specs.declared.record.Record.{Record}
use Rattle.desk.specs.Desks.{view}
use Rattle.desk.specs.Records.{entry_of}
use Rattle.desk.specs.Soundness.{Shows, Sound}
use Rattle.posting.specs.Postable.{Showing}
use Rattle.moving.specs.Midway.{Midway}
use Rattle.moving.proofs.Bounds.{fine_below, account_bound}

pub showing_of : (d : Desk) → Sound d → Showing d
showing_of d S = record { written = S.written; each_day = S.each_day; shown = S.shown }

pub midway_of : (d : Desk) → Sound d → Midway d
midway_of d S = record { showing = showing_of d S; solvent = S.kept.solvent; posted = S.kept.posted; amounts = S.kept.amounts; days = S.kept.days; once = S.kept.once }

-- a record that is gone shows nothing, of any accounts
pub gone_shows : (B : Account → ℕ → ℕ) (r : Record) → living (entry_of r) ≡ false → r.held ≡ replicate 31 0 → r.aside ≡ replicate 31 0 → Shows B r
gone_shows B r gone h a = record {
  held_days = ap length h;
  aside_days = ap length a;
  holds = λ j l. ap (λ xs. get_or xs j 0) h ∙ (get_or-replicate 31 j 0 0 l ∙ sym (cond-false _ _ 0 gone));
  sets_aside = λ j l. ap (λ xs. get_or xs j 0) a ∙ (get_or-replicate 31 j 0 0 l ∙ sym (cond-false _ _ 0 gone));
}

-- no account has more than 20,000 MW, so to move at most that is to move all
all_moved : (n : ℕ) (p : ℕ → ℕ) → ((day : ℕ) → p day ≤ 20000) → (t : ℕ) (κ : LineKind) (a b : ℕ) → a < n → b < n → 0 < sort (from κ a b) → (s d : ℕ) (ls : List Line) → Fine n p ls →
    by_day (λ day ls. post t κ a b day (min (balance ls (from κ a b) day) 20000) ls) s d ls ≡ by_day (λ day ls. post t κ a b day (balance ls (from κ a b) day) ls) s d ls
unfolding by_day
all_moved n p small t κ a b la lb inner s zero ls F = refl
all_moved n p small t κ a b la lb inner s (suc d) ls F =
    let e : min (balance ls (from κ a b) s) 20000 ≡ balance ls (from κ a b) s = omega (arith, account_bound ls F.solvent (from κ a b) inner s, small s, F.whole s) in
    rw e (all_moved n p small t κ a b la lb inner (suc s) d (post t κ a b s (balance ls (from κ a b) s) ls) (fine_post n p t κ a b s (balance ls (from κ a b) s) ls F (omega arith) inner la lb))

pub moves_all : (d : Desk) → Midway d → (t : ℕ) (κ : LineKind) (a b : ℕ) → 0 < sort (from κ a b) → (s n : ℕ) →
    by_day (λ day ls. post t κ a b day (min (balance ls (from κ a b) day) 20000) ls) s n (view d).lines ≡ by_day (λ day ls. post t κ a b day (balance ls (from κ a b) day) ls) s n (view d).lines
moves_all d M t κ a b inner s n =
    let f = fine_below (posted_on (view d).days) (view d).lines M.solvent M.posted (a + b) in
    all_moved f.0 (posted_on (view d).days) M.amounts t κ a b (omega (arith, f.1)) (omega (arith, f.1)) inner s n (view d).lines f.2
