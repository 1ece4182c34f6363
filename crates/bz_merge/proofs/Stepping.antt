-- What a step leads to up to another look at the guard of the link to the parent, as one statement.
use Rattle.std.proofs.Common.{◌≡◌, ◌≢◌, ◌+◌, ◌<◌, ◌≤◌, ◌⊎◌, ℕ, if◌then◌else◌, Bool, true, false, length, arith, refl, sym, ap, subst, ◌∙◌, inl, inr}
use Rattle.std.specs.Prelude.{nat_lt, None, Some, slice_index}
use Rattle.bz_call.specs.declared.replies.Spent.TheVariants.{Nodes as NoNodes, Swaps as NoSwaps}
use Rattle.bz_layout.specs.Addresses.{node_address}
use Rattle.bz_layout.specs.Slots.{FreeSlots}
use Rattle.bz_layout.specs.declared.config.Config.{Config}
use Rattle.bz_layout.specs.declared.sizes.TheConstants.{NODE_WORDS, STATUS_AT}
use Rattle.bz_renew.specs.Nodes.{HaveSlots}
use Rattle.bz_task.specs.declared.todo.Outcome.{Outcome}
use Rattle.bz_task.specs.OwnActs.{AreTakenFrom}
use Rattle.bz_task.specs.Requests.{Hears}
use Rattle.bz_task.specs.declared.todo.Outcome.TheVariants.{Done as IsDone, Restart as Restarts, Full as IsFull}
use Rattle.bz_task.specs.declared.todo.Seen.{Seen}
use Rattle.bz_task.specs.declared.todo.Seen.TheVariants.{Start, Read as Was, Stored, Flushed, Swapped, NoSwap as NoneLeft}
use Rattle.bz_task.specs.declared.todo.Todo.TheVariants.{Read as Reads}
use Rattle.bz_merge.specs.Decisions.{HasTold, HasSettled, HasBegun, HasLooked}
use Rattle.bz_merge.specs.Facts.{round_acts, rest_acts, merge_asks, merge_end, merge_left, merge_steps, merge_needs, merge_differs, word_after, beside_after, IsReady}
use Rattle.bz_merge.specs.Plans.{Merging, merge_nodes}
use Rattle.bz_merge.specs.declared.phase.MergePhase.{MergePhase}
use Rattle.bz_merge.specs.declared.phase.MergePhase.TheVariants.{Fresh, Word, Again, Beside, Parent, Still, Freeze, FreezeBeside, Guard, Store, Restart, NoNeighbour, NoSlot}
use Rattle.bz_merge.specs.declared.sibling.Sibling.{Sibling}

-- a load is told a word
found : (a : ℕ) (seen : Seen) → Hears (Some (Reads a)) seen → (v : ℕ) × (seen ≡ Was v)
found a (Was v) h = (v, refl)
found a Start h = absurd (h)
found a Stored h = absurd (h)
found a Flushed h = absurd (h)
found a (Swapped won) h = absurd (h)
found a NoneLeft h = absurd (h)

-- it is another word where it is not this one
another : (v : ℕ) (seen : Seen) (f : (w : ℕ) × (seen ≡ Was w)) → seen ≢ Was v → f.0 ≢ v
another v seen f ne = λ e. ne (f.1 ∙ ap Was e)

other-again : (c : Config) (r : Merging) (seen : Seen) → Hears (merge_asks c r Again) seen → seen ≢ Was r.lower.status → merge_differs r Again seen
other-again c r seen h ne = let f = found r.lower.guard seen h in subst (merge_differs r Again) (sym f.1) (another r.lower.status seen f ne)

other-parent : (c : Config) (r : Merging) (seen : Seen) → Hears (merge_asks c r Parent) seen → seen ≢ Was r.lower.status → merge_differs r Parent seen
other-parent c r seen h ne = let f = found r.lower.guard seen h in subst (merge_differs r Parent) (sym f.1) (another r.lower.status seen f ne)

other-still : (c : Config) (r : Merging) (seen : Seen) → Hears (merge_asks c r Still) seen → seen ≢ Was (slice_index r.beside STATUS_AT) → merge_differs r Still seen
other-still c r seen h ne = let f = found (node_address c r.beside_slot + STATUS_AT) seen h in subst (merge_differs r Still) (sym f.1) (another (slice_index r.beside STATUS_AT) seen f ne)

-- it ends with a restart alone, or because no neighbour has room, and no slot is taken
pub record Picks (r : Merging) (right : Bool) (o q : MergePhase) (seen : Seen) : Type 0 where
  pub begun : q ≢ Fresh
  pub nearer : merge_left right q + merge_steps q ≤ merge_left r.right o
  pub needs : merge_needs q ≤ merge_needs o
  pub done : merge_end q ≢ Some IsDone
  pub restart : merge_end q ≡ Some Restarts → merge_differs r o seen
  pub full_swaps : merge_end q ≢ Some (IsFull NoSwaps)
  pub full_nodes : merge_end q ≢ Some (IsFull NoNodes)

-- a phase that goes on
goes-on : (r : Merging) (right : Bool) (o q : MergePhase) (seen : Seen) → q ≢ Fresh → merge_end q ≡ None → merge_left right q + merge_steps q ≤ merge_left r.right o → merge_needs q ≤ merge_needs o → Picks r right o q seen
goes-on r right o q seen begun none nearer needs = record {
  begun = begun;
  nearer = nearer;
  needs = needs;
  done = λ e. let z = sym none ∙ e in cc;
  restart = λ e. absurd (let z = sym none ∙ e in cc);
  full_swaps = λ e. let z = sym none ∙ e in cc;
  full_nodes = λ e. let z = sym none ∙ e in cc;
}

-- one that ends it, as no neighbour has room or as something was another one
none-picks : (r : Merging) (right : Bool) (o : MergePhase) (seen : Seen) → 0 < merge_left r.right o → Picks r right o NoNeighbour seen
none-picks r right o seen some = record { begun = λ e. cc; nearer = omega (arith, some); needs = omega arith; done = λ e. cc; restart = λ e. absurd (cc); full_swaps = λ e. cc; full_nodes = λ e. cc }

restart-picks : (r : Merging) (right : Bool) (o : MergePhase) (seen : Seen) → 0 < merge_left r.right o → merge_differs r o seen → Picks r right o Restart seen
restart-picks r right o seen some differs = record { begun = λ e. cc; nearer = omega (arith, some); needs = omega arith; done = λ e. cc; restart = λ e. differs; full_swaps = λ e. cc; full_nodes = λ e. cc }

rest-few : (right : Bool) → rest_acts right ≤ round_acts
rest-few true = omega arith
rest-few false = omega arith

fresh-on : (r : Merging) (seen : Seen) → Picks r r.right Fresh (Word 1) seen
fresh-on r seen = goes-on r r.right Fresh (Word 1) seen (λ e. cc) refl (omega arith) (omega arith)

word-on : (r : Merging) (i next : ℕ) (b : Bool) (seen : Seen) → i < NODE_WORDS → i < next → Picks r r.right (Word i) (if b then Word next else Again) seen
word-on r i next true seen within after = goes-on r r.right (Word i) (Word next) seen (λ e. cc) refl (omega (arith, within, after)) (omega arith)
word-on r i next false seen within after = goes-on r r.right (Word i) Again seen (λ e. cc) refl (omega (arith, within, after)) (omega arith)

beside-on : (r : Merging) (i next : ℕ) (b : Bool) (seen : Seen) → i < NODE_WORDS → i < next → Picks r r.right (Beside i) (if b then Beside next else Parent) seen
beside-on r i next true seen within after = goes-on r r.right (Beside i) (Beside next) seen (λ e. cc) refl (omega (arith, within, after)) (omega arith)
beside-on r i next false seen within after = goes-on r r.right (Beside i) Parent seen (λ e. cc) refl (omega (arith, within, after)) (omega arith)

told-on : (c : Config) (r : Merging) (seen : Seen) (side : Sibling) (q : MergePhase) → Hears (merge_asks c r Again) seen → HasTold r seen side q → Picks r side.right Again q seen
told-on c r seen side (Beside i) hears h = goes-on r side.right Again (Beside i) seen (λ e. cc) refl (omega (arith, rest-few side.right)) (omega arith)
told-on c r seen side NoNeighbour hears h = none-picks r side.right Again seen (omega arith)
told-on c r seen side Restart hears h = restart-picks r side.right Again seen (omega arith) (other-again c r seen hears h)
told-on c r seen side q hears h = absurd (h)

settled-on : (c : Config) (r : Merging) (seen : Seen) (side : Sibling) (q : MergePhase) → Hears (merge_asks c r Still) seen → HasSettled r seen side q → Picks r side.right Still q seen
settled-on c r seen side (Beside i) hears h = goes-on r side.right Still (Beside i) seen (λ e. cc) refl (omega (arith, ap rest_acts h.1.1.1.0, ap rest_acts h.1.1.1.1.0)) (omega arith)
settled-on c r seen side NoNeighbour hears h = none-picks r side.right Still seen (omega arith)
settled-on c r seen side Freeze hears h = goes-on r side.right Still Freeze seen (λ e. cc) refl (omega arith) (omega arith)
settled-on c r seen side FreezeBeside hears h = goes-on r side.right Still FreezeBeside seen (λ e. cc) refl (omega arith) (omega arith)
settled-on c r seen side Guard hears h = goes-on r side.right Still Guard seen (λ e. cc) refl (omega arith) (omega arith)
settled-on c r seen side Restart hears h = restart-picks r side.right Still seen (omega arith) (other-still c r seen hears h)
settled-on c r seen side q hears h = absurd (h)

module _ (c : Config) (r : Merging) (o q : MergePhase) (seen : Seen) where
  -- a step from the phase that it is
  pub fresh-picks : o ≡ Fresh → q ≡ Word 1 → Picks r r.right o q seen
  fresh-picks is then_is = subst (λ z. Picks r r.right z q seen) (sym is) (subst (λ z. Picks r r.right Fresh z seen) (sym then_is) (fresh-on r seen))

  pub word-picks : (i next : ℕ) → o ≡ Word i → q ≡ word_after next → i < NODE_WORDS → i < next → Picks r r.right o q seen
  word-picks i next is then_is within after = subst (λ z. Picks r r.right z q seen) (sym is) (subst (λ z. Picks r r.right (Word i) z seen) (sym then_is) (word-on r i next (nat_lt next NODE_WORDS) seen within after))

  pub beside-picks : (i next : ℕ) → o ≡ Beside i → q ≡ beside_after next → i < NODE_WORDS → i < next → Picks r r.right o q seen
  beside-picks i next is then_is within after = subst (λ z. Picks r r.right z q seen) (sym is) (subst (λ z. Picks r r.right (Beside i) z seen) (sym then_is) (beside-on r i next (nat_lt next NODE_WORDS) seen within after))

  pub told-picks : (side : Sibling) → o ≡ Again → Hears (merge_asks c r Again) seen → HasTold r seen side q → Picks r side.right o q seen
  told-picks side is hears h = subst (λ z. Picks r side.right z q seen) (sym is) (told-on c r seen side q hears h)

  pub settled-picks : (side : Sibling) → o ≡ Still → Hears (merge_asks c r Still) seen → HasSettled r seen side q → Picks r side.right o q seen
  settled-picks side is hears h = subst (λ z. Picks r side.right z q seen) (sym is) (settled-on c r seen side q hears h)

  pub checked-picks : o ≡ Parent → Hears (merge_asks c r Parent) seen → ((seen ≡ Was r.lower.status) × (q ≡ Still)) ⊎ ((seen ≢ Was r.lower.status) × (q ≡ Restart)) → Picks r r.right o q seen
  checked-picks is hears h = subst (λ z. Picks r r.right z q seen) (sym is) (elim h [
    | inl g ↦ subst (λ z. Picks r r.right Parent z seen) (sym g.1) (goes-on r r.right Parent Still seen (λ e. cc) refl (omega arith) (omega arith))
    | inr g ↦ subst (λ z. Picks r r.right Parent z seen) (sym g.1) (restart-picks r r.right Parent seen (omega arith) (other-parent c r seen hears g.0))
  ])

-- the nodes are begun where the guard is as it was, and the slots are taken
pub record Looks (c : Config) (r : Merging) (right : Bool) (o q : MergePhase) (old new : FreeSlots) : Type 0 where
  pub begun : q ≢ Fresh
  pub ready : IsReady c r q
  pub nearer : merge_left r.right q + merge_steps q ≤ merge_left right o
  pub slots : AreTakenFrom (merge_needs o) (merge_needs q) old new
  pub done : merge_end q ≢ Some IsDone
  pub full_swaps : merge_end q ≢ Some (IsFull NoSwaps)
  pub full_nodes : merge_end q ≡ Some (IsFull NoNodes) → length old.free < merge_needs o

begun-on : (c : Config) (r : Merging) (right : Bool) (q : MergePhase) (old new : FreeSlots) → old.nodes ≡ c.nodes → HasBegun r q old new → Looks c r right Guard q old new
begun-on c r right (Store j) old new nodes h = record {
  begun = λ e. cc;
  ready = (subst (λ z. HaveSlots z (merge_nodes r)) nodes h.1.0.slots, omega (arith, h.0));
  nearer = omega (arith, h.0);
  slots = inl (record { some = omega arith; enough = h.1.0.enough; slots = h.1.0.rest; none_left = refl });
  done = λ e. cc;
  full_swaps = λ e. cc;
  full_nodes = λ e. absurd (cc);
}
begun-on c r right NoSlot old new nodes h = record {
  begun = λ e. cc;
  ready = tt;
  nearer = omega arith;
  slots = inr (record { fewer = omega arith; slots = h.1 });
  done = λ e. cc;
  full_swaps = λ e. cc;
  full_nodes = λ e. h.0;
}
begun-on c r right q old new nodes h = absurd (h)

other-on : (c : Config) (r : Merging) (right : Bool) (old new : FreeSlots) → new ≡ old → Looks c r right Guard Restart old new
other-on c r right old new is = record {
  begun = λ e. cc;
  ready = tt;
  nearer = omega arith;
  slots = inr (record { fewer = omega arith; slots = is });
  done = λ e. cc;
  full_swaps = λ e. cc;
  full_nodes = λ e. absurd (cc);
}

pub looks : (c : Config) (r : Merging) (right : Bool) (o q : MergePhase) (seen : Seen) (old new : FreeSlots) → o ≡ Guard → old.nodes ≡ c.nodes → HasLooked r seen q old new → Looks c r right o q old new
looks c r right o q seen old new is nodes h = subst (λ z. Looks c r right z q old new) (sym is) (elim h [
  | inl g ↦ begun-on c r right q old new nodes g.1
  | inr g ↦ subst (λ z. Looks c r right Guard z old new) (sym g.1.0) (other-on c r right old new g.1.1)
])

-- where it ends none was taken
begun-kept : (r : Merging) (p : MergePhase) (old new : FreeSlots) (outcome : Outcome) → HasBegun r p old new → merge_end p ≡ Some outcome → new ≡ old
begun-kept r (Store j) old new outcome h e = absurd (cc)
begun-kept r NoSlot old new outcome h e = h.1
begun-kept r p old new outcome h e = absurd (h)

pub looked-kept : (r : Merging) (seen : Seen) (p : MergePhase) (old new : FreeSlots) (outcome : Outcome) → HasLooked r seen p old new → merge_end p ≡ Some outcome → new ≡ old
looked-kept r seen p old new outcome (inl h) e = begun-kept r p old new outcome h.1 e
looked-kept r seen p old new outcome (inr h) e = h.1.1
