-- A look-up keeps what it looks up, and where.
use Rattle.std.proofs.Common.{Some, subst, ◌≡◌, ℕ, ◌+◌, refl}
use Rattle.bz_layout.specs.Addresses.{node_address}
use Rattle.bz_layout.specs.declared.sizes.TheConstants.{STATUS_AT, HEADER_AT}
use Rattle.bz_task.specs.Requests.{Hears}
use Rattle.bz_task.specs.declared.todo.Seen.{Seen}
use Rattle.bz_task.specs.declared.todo.Seen.TheVariants.{Read as Was}
use Rattle.bz_task.specs.declared.todo.Todo.{Todo}
use Rattle.bz_task.specs.declared.todo.Todo.TheVariants.{Read, Finish}
use Rattle.bz_find.specs.Duties.{asked_by}
use Rattle.bz_find.specs.Phases.{find_asks, told, reads_of}
use Rattle.bz_find.specs.Steps.{place_of}
use Rattle.bz_find.specs.declared.find.Find.{Find}
use Rattle.bz_find.specs.declared.phase.FindPhase.{FindPhase}
use Rattle.bz_find.specs.declared.phase.FindPhase.TheVariants.{Fresh, Status, Header, Searching, Again, Link as Of_link, Guard, Viewed, Changed}
use Rattle.bz_find.proofs.Slots.{read-only, no-answer}

read-counts : (a : ℕ) (todo : Todo) → Some (Read a) ≡ Some todo → asked_by todo ≡ 1
read-counts a todo e = let q : Read a ≡ todo = cc in subst (λ z. asked_by z ≡ 1) q refl

pub record Keeps (t u : Find) : Type 0 where
  pub config : u.config ≡ t.config
  pub key : u.key ≡ t.key
  pub path : u.path ≡ t.path
  pub link : u.link ≡ t.link
  pub asked : u.asked ≡ t.asked

same : (t u : Find) → u.config ≡ t.config → u.key ≡ t.key → u.path ≡ t.path → u.link ≡ t.link → u.asked ≡ t.asked → Keeps t u
same t u c k p l a = record { config = c; key = k; path = p; link = l; asked = a }

from-fresh : (t : Find) (now : ℕ) (seen : Seen) → Keeps t (told t Fresh seen now)
from-fresh t now seen = same t (told t Fresh seen now) refl refl refl refl refl

pub keeps-at : (t : Find) (phase : FindPhase) (seen : Seen) (now : ℕ) → Hears (find_asks t phase) seen → Keeps t (told t phase seen now)
keeps-at t Fresh seen now h = from-fresh t now seen
keeps-at t Status seen now h = read-only (λ z. Keeps t (told t Status z now)) (node_address t.config t.link.slot + STATUS_AT) (λ v. same t (told t Status (Was v) now) refl refl refl refl refl) seen h
keeps-at t Header seen now h = read-only (λ z. Keeps t (told t Header z now)) (node_address t.config t.link.slot + HEADER_AT) (λ v. same t (told t Header (Was v) now) refl refl refl refl refl) seen h
keeps-at t Searching seen now h = read-only (λ z. Keeps t (told t Searching z now)) (node_address t.config t.link.slot + place_of t.search.step) (λ v. same t (told t Searching (Was v) now) refl refl refl refl refl) seen h
keeps-at t Again seen now h = read-only (λ z. Keeps t (told t Again z now)) (node_address t.config t.link.slot + STATUS_AT) (λ v. same t (told t Again (Was v) now) refl refl refl refl refl) seen h
keeps-at t Of_link seen now h = read-only (λ z. Keeps t (told t Of_link z now)) t.link.link (λ v. same t (told t Of_link (Was v) now) refl refl refl refl refl) seen h
keeps-at t (Guard at) seen now h = read-only (λ z. Keeps t (told t (Guard at) z now)) t.link.guard (λ v. same t (told t (Guard at) (Was v) now) refl refl refl refl refl) seen h
keeps-at t (Viewed at) seen now h = no-answer (Keeps t (told t (Viewed at) seen now)) seen h
keeps-at t Changed seen now h = no-answer (Keeps t (told t Changed seen now)) seen h

-- a read is counted, and the end is not
pub counts-reads : (u : Find) (phase : FindPhase) (todo : Todo) → find_asks u phase ≡ Some todo → asked_by todo ≡ reads_of phase
counts-reads u Fresh todo e = absurd (cc)
counts-reads u Status todo e = read-counts _ todo e
counts-reads u Header todo e = read-counts _ todo e
counts-reads u Searching todo e = read-counts _ todo e
counts-reads u Again todo e = read-counts _ todo e
counts-reads u Of_link todo e = read-counts _ todo e
counts-reads u (Guard at) todo e = read-counts _ todo e
counts-reads u (Viewed at) todo e = let q : Finish ≡ todo = cc in subst (λ z. asked_by z ≡ 0) q refl
counts-reads u Changed todo e = let q : Finish ≡ todo = cc in subst (λ z. asked_by z ≡ 0) q refl
