-- The steps of a merge of two inner nodes after a status that was looked at once more.
use Rattle.std.proofs.Common.{◌≡◌, ◌≢◌, ℕ, ◌+◌, ◌^◌, ◌<◌, ◌⊎◌, Bool, true, false, List, slice_index, arith, refl, sym, ap, subst, ◌∙◌, inl, inr}
use Rattle.std.specs.Prelude.{Some}
use Rattle.bz_layout.specs.Addresses.{node_address}
use Rattle.bz_layout.specs.Slots.{FreeSlots}
use Rattle.bz_layout.specs.declared.config.Config.{Config}
use Rattle.bz_layout.specs.declared.sizes.TheConstants.{NODE_WORDS, STATUS_AT}
use Rattle.bz_word.specs.Statuses.{status}
use Rattle.bz_task.specs.Contract.{MayHear}
use Rattle.bz_task.specs.Requests.{Answers, Tells}
use Rattle.bz_task.specs.Scene.{Scene, Stage, Waiting, Took, IsScene, HasFilled, here}
use Rattle.bz_task.specs.declared.todo.Seen.{Seen}
use Rattle.bz_task.specs.declared.todo.Seen.TheVariants.{Read as Was}
use Rattle.bz_task.specs.declared.todo.Todo.TheVariants.{Read as Reads}
use Rattle.bz_renew.specs.Due.{IsStatusOf}
use Rattle.bz_writer.specs.declared.phase.WritePhase.TheVariants.{Guard, Restart}
use Rattle.bz_inner.specs.JoinDuties.{view_joining}
use Rattle.bz_inner.specs.JoinFacts.{HasTold, HasRead, HasOpened, HasWeighed, IsWeighable, joining_asks, joining_facts}
use Rattle.bz_inner.specs.Joinings.{Joining, IsReadingAbove, IsReadingOwn, HasOwn, IsReadingBeside}
use Rattle.bz_inner.specs.Neighbours.{IsParentOf}
use Rattle.bz_inner.specs.declared.join_phase.JoinPhase.{JoinPhase}
use Rattle.bz_inner.specs.declared.join_phase.JoinPhase.TheVariants.{AboveAgain, Own, OwnAgain, Status, Beside, BesideAgain, NoRoom, Writing}
use Rattle.bz_inner.specs.declared.neighbour.Neighbour.{Neighbour}
use Rattle.bz_inner.proofs.JoinActing.{beside-slot}
use Rattle.bz_inner.proofs.JoinGoing.{Steps, goes-read, config-known}
use Rattle.bz_inner.proofs.JoinReading.{with_beside, link-slot}
use Rattle.bz_inner.proofs.JoinStaying.{no-slot}
use Rattle.bz_inner.proofs.JoinTelling.{with_side, root-open, is-parent, is-reading-own}
use Rattle.bz_inner.proofs.JoinWeighing.{own-whole, beside-first, planned, too-large, weighable}

-- an answer to a load comes while it waits
answered : (a v : ℕ) (stage : Stage) (s : Scene) → Tells (Some (Reads a)) stage (Was v) s → (stage ≡ Waiting) × Answers s a v
answered a v Waiting s t = (refl, t)
answered a v Took s t = absurd (t)

one-value : (v w : ℕ) → Was v ≡ Was w → v ≡ w
one-value v w e = cc

-- it is the value that was wanted
found : (a v w : ℕ) (s : Scene) → Answers s a v → Was v ≡ Was w → (here s).value a ≡ w
found a v w s t e = t.value ∙ one-value v w e

-- a status that is not the one wanted, or is one of a frozen node, differs
other-status : (v st : ℕ) → v < 2 ^ 61 → (Was v ≡ Was st → ¬ IsStatusOf false st) → (v ≢ st) ⊎ ((status v).frozen ≡ true)
other-status v st plain none = go (status v).frozen refl
  where
    go : (b : Bool) → (status v).frozen ≡ b → (v ≢ st) ⊎ ((status v).frozen ≡ true)
    go true e = inr e
    go false e = inl (λ same. none (ap Was same) (subst (IsStatusOf false) same (record { plain = plain; is = e })))

frozen-status : (v : ℕ) → v < 2 ^ 61 → ¬ IsStatusOf false v → (status v).frozen ≡ true
frozen-status v plain none = go (status v).frozen refl
  where
    go : (b : Bool) → (status v).frozen ≡ b → (status v).frozen ≡ true
    go true e = e
    go false e = absurd (none (record { plain = plain; is = e }))

-- what is known before each
above-waits : (r : Joining) (stage : Stage) (s : Scene) → joining_facts r AboveAgain stage s → HasFilled s × IsReadingAbove r NODE_WORDS s.past
above-waits r Waiting s f = f
above-waits r Took s f = absurd (f)

own-waits : (r : Joining) (stage : Stage) (s : Scene) → joining_facts r OwnAgain stage s → HasFilled s × IsReadingOwn r NODE_WORDS s.past
own-waits r Waiting s f = f
own-waits r Took s f = absurd (f)

status-waits : (r : Joining) (stage : Stage) (s : Scene) → joining_facts r Status stage s → HasFilled s × HasOwn r s.past
status-waits r Waiting s f = f
status-waits r Took s f = absurd (f)

beside-waits : (r : Joining) (stage : Stage) (s : Scene) → joining_facts r BesideAgain stage s → HasFilled s × IsReadingBeside r NODE_WORDS s.past
beside-waits r Waiting s f = f
beside-waits r Took s f = absurd (f)

-- the root's own status
pub told-parent : (c : Config) (r : Joining) (o : JoinPhase) (seen : Seen) (stage : Stage) (s : Scene) → o ≡ AboveAgain → IsScene s → joining_facts r o stage s → Tells (joining_asks c r o) stage seen s → seen ≡ Was r.middle.status → IsStatusOf false r.middle.status → IsParentOf r.above r.middle.slot
told-parent c r o seen stage s is good f t same thawed =
    let g = above-waits r stage s (subst (λ z. joining_facts r z stage s) is f) in
    let a = answered r.middle.guard r.middle.status stage s (subst (λ z. Tells (joining_asks c r AboveAgain) stage z s) same (subst (λ z. Tells (joining_asks c r z) stage seen s) is t)) in
    is-parent r s good g.1 thawed a.1.value

told-at : (c : Config) (r : Joining) (side : Neighbour) (p : JoinPhase) (seen : Seen) (moment : ℕ) (free : FreeSlots) → MayHear (view_joining c r AboveAgain) seen moment free → HasTold r seen side p → Steps c r (with_side r side) AboveAgain p seen moment free free
told-at c r side (Own i) (Was v) moment free may h =
    let k = may.known in
    let f = above-waits r k.stage k.scene k.holds in
    subst (λ z. Steps c r (with_side r side) AboveAgain (Own z) (Was v) moment free free) (sym h.0) (record {
      known = config-known c r AboveAgain (Was v) moment free may;
      begun = λ e. absurd (cc);
      ready = (subst (λ (z : Config). r.middle.slot < z.nodes) k.config (link-slot k.scene r.middle.slot r.lower k.good f.1.links.own), omega arith);
      goes = goes-read c r (with_side r side) AboveAgain (Own 1) v free (record { nearer = omega arith; one = refl; asks = refl; few = omega arith; slots = omega arith; step = refl; ends = inl refl; upper = refl; middle = refl; lower = refl });
      learns = λ stage s now same good unreached g t.
          let e = above-waits r stage s g in
          no-slot (with_side r side) s free (Own 1) (e.0, (omega arith, (omega arith, is-reading-own r s good e.1 h.1.1.0 (found r.middle.guard v r.middle.status s (answered r.middle.guard v stage s t).1 h.1.0) side h.1.1.1)));
    })
told-at c r side NoRoom (Was v) moment free may h = record {
  known = config-known c r AboveAgain (Was v) moment free may;
  begun = λ e. absurd (cc);
  ready = tt;
  goes = goes-read c r (with_side r side) AboveAgain NoRoom v free (record { nearer = omega arith; one = refl; asks = refl; few = omega arith; slots = omega arith; step = refl; ends = inr (inl refl); upper = refl; middle = refl; lower = refl });
  learns = λ stage s now same good unreached g t.
      let e = above-waits r stage s g in
      no-slot (with_side r side) s free NoRoom
      (e.0, inr (inl (record { at = e.1.links.parent_at; above = r.above; parent = root-open r s good e.1 h.1.0 (found r.middle.guard v r.middle.status s (answered r.middle.guard v stage s t).1 h.0); only = h.1.1 })));
}
told-at c r side (Writing Restart) (Was v) moment free may h =
    let k = may.known in
    record {
      known = config-known c r AboveAgain (Was v) moment free may;
      begun = λ e. absurd (cc);
      ready = ((λ e. absurd (cc)), tt);
      goes = goes-read c r (with_side r side) AboveAgain (Writing Restart) v free
          (record { nearer = omega arith; one = refl; asks = refl; few = omega arith; slots = omega arith; step = refl; ends = inr (inr (refl, other-status v r.middle.status (answered r.middle.guard v k.stage k.scene k.tells).1.plain h)); upper = refl; middle = refl; lower = refl });
      learns = λ stage s now same good unreached g t. no-slot (with_side r side) s free (Writing Restart) (above-waits r stage s g).0;
    }
told-at c r side (Writing Guard) (Was v) moment free may h = absurd (h)
told-at c r side p (Was v) moment free may h = absurd (h)
told-at c r side p seen moment free may h = absurd (may.hears)

pub steps-told : (c : Config) (r : Joining) (side : Neighbour) (o p : JoinPhase) (seen : Seen) (moment : ℕ) (free : FreeSlots) → o ≡ AboveAgain → MayHear (view_joining c r o) seen moment free → HasTold r seen side p → Steps c r (with_side r side) o p seen moment free free
steps-told c r side o p seen moment free is may h = subst (λ z. Steps c r (with_side r side) z p seen moment free free) (sym is) (told-at c r side p seen moment free (subst (λ z. MayHear (view_joining c r z) seen moment free) is may) h)

-- the node's status
read-at : (c : Config) (r : Joining) (p : JoinPhase) (seen : Seen) (moment : ℕ) (free : FreeSlots) → MayHear (view_joining c r OwnAgain) seen moment free → HasRead r seen p → Steps c r r OwnAgain p seen moment free free
read-at c r Status (Was v) moment free may h =
    let k = may.known in
    let f = own-waits r k.stage k.scene k.holds in
    record {
      known = config-known c r OwnAgain (Was v) moment free may;
      begun = λ e. absurd (cc);
      ready = subst (λ (z : Config). r.beside_slot < z.nodes) k.config (beside-slot r k.scene k.good f.1.paired);
      goes = goes-read c r r OwnAgain Status v free (record { nearer = omega arith; one = refl; asks = refl; few = omega arith; slots = omega arith; step = refl; ends = inl refl; upper = refl; middle = refl; lower = refl });
      learns = λ stage s now same good unreached g t.
          let e = own-waits r stage s g in
          no-slot r s free Status (e.0, own-whole r s good e.1 h.1 (found r.lower.guard v r.lower.status s (answered r.lower.guard v stage s t).1 h.0));
    }
read-at c r (Writing Restart) (Was v) moment free may h =
    let k = may.known in
    record {
      known = config-known c r OwnAgain (Was v) moment free may;
      begun = λ e. absurd (cc);
      ready = ((λ e. absurd (cc)), tt);
      goes = goes-read c r r OwnAgain (Writing Restart) v free
          (record { nearer = omega arith; one = refl; asks = refl; few = omega arith; slots = omega arith; step = refl; ends = inr (inr (refl, other-status v r.lower.status (answered r.lower.guard v k.stage k.scene k.tells).1.plain h)); upper = refl; middle = refl; lower = refl });
      learns = λ stage s now same good unreached g t. no-slot r s free (Writing Restart) (own-waits r stage s g).0;
    }
read-at c r (Writing Guard) (Was v) moment free may h = absurd (h)
read-at c r p (Was v) moment free may h = absurd (h)
read-at c r p seen moment free may h = absurd (may.hears)

pub steps-read : (c : Config) (r : Joining) (o p : JoinPhase) (seen : Seen) (moment : ℕ) (free : FreeSlots) → o ≡ OwnAgain → MayHear (view_joining c r o) seen moment free → HasRead r seen p → Steps c r r o p seen moment free free
steps-read c r o p seen moment free is may h = subst (λ z. Steps c r r z p seen moment free free) (sym is) (read-at c r p seen moment free (subst (λ z. MayHear (view_joining c r z) seen moment free) is may) h)

-- the neighbour's status
opened-at : (c : Config) (r : Joining) (read : List ℕ) (p : JoinPhase) (seen : Seen) (moment : ℕ) (free : FreeSlots) → MayHear (view_joining c r Status) seen moment free → HasOpened seen read p → Steps c r (with_beside r read) Status p seen moment free free
opened-at c r read (Beside i) (Was v) moment free may h =
    let k = may.known in
    let f = status-waits r k.stage k.scene k.holds in
    subst (λ z. Steps c r (with_beside r read) Status (Beside z) (Was v) moment free free) (sym h.0) (record {
      known = config-known c r Status (Was v) moment free may;
      begun = λ e. absurd (cc);
      ready = (subst (λ (z : Config). r.beside_slot < z.nodes) k.config (beside-slot r k.scene k.good f.1.paired), omega arith);
      goes = goes-read c r (with_beside r read) Status (Beside 1) v free (record { nearer = omega arith; one = refl; asks = refl; few = omega arith; slots = omega arith; step = refl; ends = inl refl; upper = refl; middle = refl; lower = refl });
      learns = λ stage s now same good unreached g t.
          let e = status-waits r stage s g in
          let a : Answers s (node_address s.past.config r.beside_slot + STATUS_AT) v = subst (λ (z : Config). Answers s (node_address z r.beside_slot + STATUS_AT) v) (sym same) (answered (node_address c r.beside_slot + STATUS_AT) v stage s t).1 in
          no-slot (with_beside r read) s free (Beside 1)
          (e.0, (omega arith, (omega arith, beside-first r s read good e.1 (found (node_address s.past.config r.beside_slot + STATUS_AT) v (slice_index read STATUS_AT) s a h.1.was) h.1.thawed h.1.size h.1.blank)));
    })
opened-at c r read (Writing Restart) (Was v) moment free may h =
    let k = may.known in
    record {
      known = config-known c r Status (Was v) moment free may;
      begun = λ e. absurd (cc);
      ready = ((λ e. absurd (cc)), tt);
      goes = goes-read c r (with_beside r read) Status (Writing Restart) v free
          (record { nearer = omega arith; one = refl; asks = refl; few = omega arith; slots = omega arith; step = refl; ends = inr (inr (refl, frozen-status v (answered (node_address c r.beside_slot + STATUS_AT) v k.stage k.scene k.tells).1.plain (h v refl))); upper = refl; middle = refl; lower = refl });
      learns = λ stage s now same good unreached g t. no-slot (with_beside r read) s free (Writing Restart) (status-waits r stage s g).0;
    }
opened-at c r read (Writing Guard) (Was v) moment free may h = absurd (h)
opened-at c r read p (Was v) moment free may h = absurd (h)
opened-at c r read p seen moment free may h = absurd (may.hears)

pub steps-opened : (c : Config) (r : Joining) (read : List ℕ) (o p : JoinPhase) (seen : Seen) (moment : ℕ) (free : FreeSlots) → o ≡ Status → MayHear (view_joining c r o) seen moment free → HasOpened seen read p → Steps c r (with_beside r read) o p seen moment free free
steps-opened c r read o p seen moment free is may h = subst (λ z. Steps c r (with_beside r read) z p seen moment free free) (sym is) (opened-at c r read p seen moment free (subst (λ z. MayHear (view_joining c r z) seen moment free) is may) h)

-- the neighbour's status, once more
beside-answers : (c : Config) (r : Joining) (v : ℕ) (stage : Stage) (s : Scene) → s.past.config ≡ c → Tells (joining_asks c r BesideAgain) stage (Was v) s → Answers s (node_address s.past.config r.beside_slot + STATUS_AT) v
beside-answers c r v stage s same t = subst (λ (z : Config). Answers s (node_address z r.beside_slot + STATUS_AT) v) (sym same) (answered (node_address c r.beside_slot + STATUS_AT) v stage s t).1

pub may-weigh : (c : Config) (r : Joining) (o : JoinPhase) (seen : Seen) (stage : Stage) (s : Scene) → o ≡ BesideAgain → s.past.config ≡ c → IsScene s → joining_facts r o stage s → Tells (joining_asks c r o) stage seen s → seen ≡ Was (slice_index r.beside STATUS_AT) → IsWeighable r
may-weigh c r o seen stage s is config good f t same =
    let g = beside-waits r stage s (subst (λ z. joining_facts r z stage s) is f) in
    let a = beside-answers c r (slice_index r.beside STATUS_AT) stage s config (subst (λ z. Tells (joining_asks c r BesideAgain) stage z s) same (subst (λ z. Tells (joining_asks c r z) stage seen s) is t)) in
    weighable r s good g.1 a.value

weighed-at : (c : Config) (r : Joining) (p : JoinPhase) (seen : Seen) (moment : ℕ) (free : FreeSlots) → MayHear (view_joining c r BesideAgain) seen moment free → HasWeighed r seen p → Steps c r r BesideAgain p seen moment free free
weighed-at c r (Writing Guard) (Was v) moment free may h = record {
  known = config-known c r BesideAgain (Was v) moment free may;
  begun = λ e. absurd (cc);
  ready = ((λ e. absurd (cc)), tt);
  goes = goes-read c r r BesideAgain (Writing Guard) v free (record { nearer = omega arith; one = refl; asks = refl; few = omega arith; slots = omega arith; step = refl; ends = inl refl; upper = refl; middle = refl; lower = refl });
  learns = λ stage s now same good unreached g t.
      let e = beside-waits r stage s g in
      no-slot r s free (Writing Guard) (e.0, planned r s good e.1 (found (node_address s.past.config r.beside_slot + STATUS_AT) v (slice_index r.beside STATUS_AT) s (beside-answers c r v stage s same t) h.0) h.1);
}
weighed-at c r NoRoom (Was v) moment free may h = record {
  known = config-known c r BesideAgain (Was v) moment free may;
  begun = λ e. absurd (cc);
  ready = tt;
  goes = goes-read c r r BesideAgain NoRoom v free (record { nearer = omega arith; one = refl; asks = refl; few = omega arith; slots = omega arith; step = refl; ends = inr (inl refl); upper = refl; middle = refl; lower = refl });
  learns = λ stage s now same good unreached g t.
      let e = beside-waits r stage s g in
      no-slot r s free NoRoom (e.0, inr (inr (too-large r s good e.1 (found (node_address s.past.config r.beside_slot + STATUS_AT) v (slice_index r.beside STATUS_AT) s (beside-answers c r v stage s same t) h.0) h.1)));
}
weighed-at c r (Writing Restart) (Was v) moment free may h = record {
  known = config-known c r BesideAgain (Was v) moment free may;
  begun = λ e. absurd (cc);
  ready = ((λ e. absurd (cc)), tt);
  goes = goes-read c r r BesideAgain (Writing Restart) v free
      (record { nearer = omega arith; one = refl; asks = refl; few = omega arith; slots = omega arith; step = refl; ends = inr (inr (refl, λ e. h (ap Was e))); upper = refl; middle = refl; lower = refl });
  learns = λ stage s now same good unreached g t. no-slot r s free (Writing Restart) (beside-waits r stage s g).0;
}
weighed-at c r p (Was v) moment free may h = absurd (h)
weighed-at c r p seen moment free may h = absurd (may.hears)

pub steps-weighed : (c : Config) (r : Joining) (o p : JoinPhase) (seen : Seen) (moment : ℕ) (free : FreeSlots) → o ≡ BesideAgain → MayHear (view_joining c r o) seen moment free → HasWeighed r seen p → Steps c r r o p seen moment free free
steps-weighed c r o p seen moment free is may h = subst (λ z. Steps c r r z p seen moment free free) (sym is) (weighed-at c r p seen moment free (subst (λ z. MayHear (view_joining c r z) seen moment free) is may) h)
