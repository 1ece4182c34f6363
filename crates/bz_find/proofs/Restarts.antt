-- A look-up is to begin again where a validating load found another value, and nowhere else.
use Rattle.std.proofs.Common.{◌≡◌, ◌≢◌, ℕ, ◌+◌, Bool, true, false, Option, arith, refl, sym, ◌∙◌}
use Rattle.std.specs.Prelude.{Some, None, ◌==◌, if◌then◌else◌}
use Rattle.std.proofs.lemmas.Bool.Decides.{nat_tests}
use Rattle.bz_layout.specs.Addresses.{node_address}
use Rattle.bz_layout.specs.declared.sizes.TheConstants.{STATUS_AT, HEADER_AT}
use Rattle.bz_word.specs.Statuses.{status}
use Rattle.bz_task.specs.Requests.{Hears}
use Rattle.bz_task.specs.declared.todo.Outcome.{Outcome}
use Rattle.bz_task.specs.declared.todo.Outcome.TheVariants.{Restart}
use Rattle.bz_task.specs.declared.todo.Seen.{Seen}
use Rattle.bz_task.specs.declared.todo.Seen.TheVariants.{Start, Read as Was, Stored, Flushed, Swapped, NoSwap}
use Rattle.bz_find.specs.Facts.{find_differs}
use Rattle.bz_find.specs.Phases.{find_asks, find_end, phase_after, told, counted}
use Rattle.bz_find.specs.Steps.{place_of}
use Rattle.bz_find.specs.declared.find.Find.{Find}
use Rattle.bz_find.specs.declared.phase.FindPhase.{FindPhase}
use Rattle.bz_find.specs.declared.phase.FindPhase.TheVariants.{Fresh, Status, Header, Searching, Again, Link as Of_link, Guard, Viewed, Changed}
use Rattle.bz_find.specs.declared.search.Step.{Step}
use Rattle.bz_find.specs.declared.search.Step.TheVariants.{Meta, Word, Payload, Done}
use Rattle.bz_find.proofs.Slots.{read-only, no-answer}

goes-on : (t : Find) (step : Step) (st : ℕ) → find_end t (phase_after step st) ≡ None
goes-on t (Meta at) st = refl
goes-on t (Word at w i) st = refl
goes-on t (Payload j w i) st = refl
goes-on t Done st = go (status st).frozen
  where
    go : (b : Bool) → find_end t (if b then Of_link else Again) ≡ None
    go true = refl
    go false = refl

not-none : {A : Type 0} (o : Option Outcome) → o ≡ None → o ≡ Some Restart → A
not-none o e f = let q : None ≡ Some Restart = sym e ∙ f in absurd (cc)

abbrev Restarts : Find → FindPhase → Seen → ℕ → Type 0
Restarts t phase seen now = find_end (told t phase seen now) (told t phase seen now).phase ≡ Some Restart → find_differs t phase seen

from-fresh : (t : Find) (seen : Seen) (now : ℕ) → Hears None seen → Restarts t Fresh seen now
from-fresh t Start now h e = absurd (cc)
from-fresh t (Was v) now h e = absurd (h)
from-fresh t Stored now h e = absurd (h)
from-fresh t Flushed now h e = absurd (h)
from-fresh t (Swapped won) now h e = absurd (h)
from-fresh t NoSwap now h e = absurd (h)

from-again : (t : Find) (v now : ℕ) → Restarts t Again (Was v) now
from-again t v now = go (v == t.status) refl
  where
    go : (b : Bool) → (v == t.status) ≡ b → find_end (record t { phase = if b then Viewed now else Changed }) (if b then Viewed now else Changed) ≡ Some Restart → v ≢ t.status
    go true e f = absurd (cc)
    go false e f = grind (arith, nat_tests)

from-link : (t : Find) (v now : ℕ) → Restarts t Of_link (Was v) now
from-link t v now = go (v == t.link.slot + 1) refl
  where
    go : (b : Bool) → (v == t.link.slot + 1) ≡ b → find_end (record t { phase = if b then Guard now else Changed }) (if b then Guard now else Changed) ≡ Some Restart → v ≢ t.link.slot + 1
    go true e f = absurd (cc)
    go false e f = grind (arith, nat_tests)

from-guard : (t : Find) (at v now : ℕ) → Restarts t (Guard at) (Was v) now
from-guard t at v now = go (status v).frozen refl
  where
    go : (b : Bool) → (status v).frozen ≡ b → find_end (record t { phase = if b then Changed else Viewed at }) (if b then Changed else Viewed at) ≡ Some Restart → (status v).frozen ≡ true
    go true e f = e
    go false e f = absurd (cc)

pub restarts-at : (t : Find) (phase : FindPhase) (seen : Seen) (now : ℕ) → Hears (find_asks t phase) seen → Restarts t phase seen now
restarts-at t Fresh seen now h = from-fresh t seen now h
restarts-at t Status seen now h = read-only (λ z. Restarts t Status z now) (node_address t.config t.link.slot + STATUS_AT) (λ v e. absurd (cc)) seen h
restarts-at t Header seen now h = read-only (λ z. Restarts t Header z now) (node_address t.config t.link.slot + HEADER_AT) (λ v e. not-none _ (goes-on (told t Header (Was v) now) (told t Header (Was v) now).search.step t.status) e) seen h
restarts-at t Searching seen now h = read-only (λ z. Restarts t Searching z now) (node_address t.config t.link.slot + place_of t.search.step) (λ v e. not-none _ (goes-on (told t Searching (Was v) now) (told t Searching (Was v) now).search.step t.status) e) seen h
restarts-at t Again seen now h = read-only (λ z. Restarts t Again z now) (node_address t.config t.link.slot + STATUS_AT) (λ v. from-again t v now) seen h
restarts-at t Of_link seen now h = read-only (λ z. Restarts t Of_link z now) t.link.link (λ v. from-link t v now) seen h
restarts-at t (Guard at) seen now h = read-only (λ z. Restarts t (Guard at) z now) t.link.guard (λ v. from-guard t at v now) seen h
restarts-at t (Viewed at) seen now h = no-answer (Restarts t (Viewed at) seen now) seen h
restarts-at t Changed seen now h = no-answer (Restarts t Changed seen now) seen h

-- the reads that are counted are no matter for the end
pub end-counted : (u : Find) (phase : FindPhase) → find_end (counted u) phase ≡ find_end u phase
end-counted u Fresh = refl
end-counted u Status = refl
end-counted u Header = refl
end-counted u Searching = refl
end-counted u Again = refl
end-counted u Of_link = refl
end-counted u (Guard at) = refl
end-counted u (Viewed at) = refl
end-counted u Changed = refl

-- told to begin it goes on
pub begins-at : (t : Find) (phase : FindPhase) (now : ℕ) → find_end (told t phase Start now) (told t phase Start now).phase ≡ None
begins-at t Fresh now = refl
begins-at t phase now = refl
