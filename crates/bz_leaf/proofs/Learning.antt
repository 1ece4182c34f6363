-- What is learnt from each read of a leaf.
use Rattle.std.proofs.Common.{◌≡◌, ◌≢◌, ℕ, ◌+◌, ◌-◌, ◌^◌, ◌<◌, ◌≤◌, Bool, true, false, List, arith, refl, sym, ap, subst, ◌∙◌, inl, inr}
use Rattle.std.specs.Prelude.{nat_lt, length, slice_index, slice_set}
use Rattle.std.proofs.lemmas.Bool.Decides.{nat_tests}
use Rattle.std.proofs.lemmas.Bool.{cases_lt, cases_eq, true≢false}
use Rattle.std.proofs.lemmas.List.{get_or-set_same, get_or-set_other}
use Rattle.bz_layout.specs.Addresses.{node_address}
use Rattle.bz_layout.specs.declared.config.Config.{Config}
use Rattle.bz_node.specs.declared.image.NodeImage.{NodeImage}
use Rattle.bz_layout.specs.declared.sizes.TheConstants.{NODE_WORDS, STATUS_AT, HEADER_AT, META_AT, ROOT_AT}
use Rattle.bz_node.specs.Reading.{payload_at}
use Rattle.bz_slotted.specs.Page.{meta_of, extent_of}
use Rattle.bz_slotted.specs.Records.{pointer_at}
use Rattle.bz_word.specs.Headers.{header}
use Rattle.bz_word.specs.Statuses.{status}
use Rattle.bz_content.specs.Image.{node}
use Rattle.bz_task.specs.Good.{IsGood}
use Rattle.bz_task.specs.Instant.{Instant, words, page_at, is_inside}
use Rattle.bz_layout.specs.Slots.{FreeSlots}
use Rattle.bz_task.specs.OwnActs.{gained}
use Rattle.bz_task.specs.Laws.{AreMoments, HasRoot}
use Rattle.bz_task.specs.Outcomes.{IsUnderRoot, IsUnderNode, IsView}
use Rattle.bz_task.specs.Requests.{Answers, Tells}
use Rattle.bz_task.specs.Scene.{Past, Scene, Stage, Waiting, Took, IsScene, HasFilled, here}
use Rattle.bz_task.specs.Shown.{SameSeparators}
use Rattle.bz_task.specs.declared.path.Link.{Link}
use Rattle.bz_task.specs.declared.todo.Seen.{Seen}
use Rattle.bz_task.specs.declared.todo.Seen.TheVariants.{Read as Was}
use Rattle.bz_task.specs.declared.view.LeafView.{LeafView}
use Rattle.bz_task.proofs.Proved.{children_are_in_trees, fronts_stay, frozen_nodes_stay, nothing_is_gained, roots_are_reached, separators_stay}
use Rattle.bz_leaf.specs.Facts.{is_used, IsKnownLeaf, WasWord, Reading, ReadsOn, HasRead, HasLink, IsBlank, IsAfter, IsMade, leaf_asks, leaf_learnt, leaf_facts}
use Rattle.bz_leaf.specs.declared.phase.LeafPhase.{LeafPhase}
use Rattle.bz_leaf.specs.declared.phase.LeafPhase.TheVariants.{Fresh, Status, Word, Again, Link as Of_link, Guard, Viewed, Changed}
use Rattle.bz_leaf.proofs.Viewing.{thawed-view, frozen-view}

-- after the words up to a place come the next one in use, or the validation
pub goes-on : (key : List ℕ) (link : Link) (ws : List ℕ) (place : ℕ) (p : Past) (phase : LeafPhase) → place < NODE_WORDS → Reading key link ws (place + 1) p → IsAfter (slice_index ws 0) place phase → leaf_learnt key link ws phase p
goes-on key link ws place p Fresh short r a = absurd (a)
goes-on key link ws place p Status short r a = absurd (a)
goes-on key link ws place p (Word i) short r a = record {
  so_far = record {
    known = r.known;
    read_at = r.read_at;
    order = r.order;
    hung_order = r.hung_order;
    until = r.until;
    was = r.was;
    plain = r.plain;
    read = λ j some l u. elim (cases_lt place j) [ inl later ↦ absurd (true≢false (sym u ∙ a.1.1.1 j later l)) | inr earlier ↦ r.read j some (omega (arith, earlier)) u ];
    rest = r.rest;
  };
  some = omega (arith, a.0);
  within = a.1.0;
  used = a.1.1.0;
}
goes-on key link ws place p Again short r a = record { all = to-end a.1; is = a.0 }
  where
    to-end : ((j : ℕ) → place < j → j < NODE_WORDS → is_used (slice_index ws 0) j ≡ false) → Reading key link ws NODE_WORDS p
    to-end h = record {
      known = r.known;
      read_at = r.read_at;
      order = r.order;
      hung_order = r.hung_order;
      until = r.until;
      was = r.was;
      plain = r.plain;
      read = λ j some l u. elim (cases_lt place j) [ inl later ↦ absurd (true≢false (sym u ∙ h j later l)) | inr earlier ↦ r.read j some (omega (arith, earlier)) u ];
      rest = r.rest;
    }
goes-on key link ws place p Of_link short r a = record { all = to-end a.1; is = a.0 }
  where
    to-end : ((j : ℕ) → place < j → j < NODE_WORDS → is_used (slice_index ws 0) j ≡ false) → Reading key link ws NODE_WORDS p
    to-end h = record {
      known = r.known;
      read_at = r.read_at;
      order = r.order;
      hung_order = r.hung_order;
      until = r.until;
      was = r.was;
      plain = r.plain;
      read = λ j some l u. elim (cases_lt place j) [ inl later ↦ absurd (true≢false (sym u ∙ h j later l)) | inr earlier ↦ r.read j some (omega (arith, earlier)) u ];
      rest = r.rest;
    }
goes-on key link ws place p (Guard at) short r a = absurd (a)
goes-on key link ws place p (Viewed at) short r a = absurd (a)
goes-on key link ws place p Changed short r a = absurd (a)

pub word-at : (c : Config) (x : Instant) (k i : ℕ) → i < NODE_WORDS → x.value (node_address c k + i) ≡ words c x k i
unfolding node
word-at c x k i l = let t : nat_lt i NODE_WORDS ≡ true = grind (arith, nat_tests) in rw t refl

module _ (s : Scene) (good : IsScene s) (key : List ℕ) (link : Link) (ws : List ℕ) (full : length ws ≡ NODE_WORDS) where
  pub reads-status : IsBlank ws → IsKnownLeaf key link s.past → (v : ℕ) → Answers s (node_address s.past.config link.slot + STATUS_AT) v → Reading key link (slice_set ws 0 v) 1 s.past
  reads-status blank k v a = record {
    known = k;
    read_at = s.past.now;
    order = k.now;
    hung_order = k.hung_now;
    until = omega arith;
    was = sym (word-at s.past.config (here s) link.slot STATUS_AT (omega arith)) ∙ (a.value ∙ sym first);
    plain = subst (λ z. z < 2 ^ 61) (sym first) a.plain;
    read = λ i some l u. absurd (omega (arith, some, l));
    rest = λ i some u. get_or-set_other ws 0 i v 0 (λ e. omega (arith, some, e)) ∙ blank i;
  }
    where
      first : slice_index (slice_set ws 0 v) 0 ≡ v
      first = get_or-set_same ws 0 v 0 (omega (arith, full))

  pub reads-word : (place v : ℕ) → ReadsOn key link ws place s.past → Answers s (node_address s.past.config link.slot + place) v → Reading key link (slice_set ws place v) (place + 1) s.past
  reads-word place v r a = record {
    known = r.so_far.known;
    read_at = r.so_far.read_at;
    order = r.so_far.order;
    hung_order = r.so_far.hung_order;
    until = r.so_far.until;
    was = r.so_far.was ∙ sym first;
    plain = subst (λ z. z < 2 ^ 61) (sym first) r.so_far.plain;
    read = λ i some l u. elim (cases_eq i place) [
      | inl e ↦ subst (λ z. WasWord link.slot z (slice_index (slice_set ws place v) z) r.so_far.read_at s.past) (sym e) now
      | inr ne ↦ (
          let old : WasWord link.slot i (slice_index ws i) r.so_far.read_at s.past = r.so_far.read i some (omega (arith, l, ne)) (subst (λ z. is_used z i ≡ true) first u) in
          subst (λ z. WasWord link.slot i z r.so_far.read_at s.past) (sym (get_or-set_other ws place i v 0 ne)) old)
    ];
    rest = λ i some u.
        let u' : is_used (slice_index ws 0) i ≡ false = subst (λ z. is_used z i ≡ false) first u in
        get_or-set_other ws place i v 0 (λ e. true≢false (sym r.used ∙ subst (λ z. is_used (slice_index ws 0) z ≡ false) e u')) ∙ r.so_far.rest i some u';
  }
    where
      first : slice_index (slice_set ws place v) 0 ≡ slice_index ws 0
      first = get_or-set_other ws place 0 v 0 (λ e. omega (arith, e, r.some))

      now : WasWord link.slot place (slice_index (slice_set ws place v) place) r.so_far.read_at s.past
      now = record {
        moment = s.past.now;
        order = r.so_far.until;
        now = omega arith;
        word = sym (word-at s.past.config (here s) link.slot place r.within) ∙ (a.value ∙ sym (get_or-set_same ws place v 0 (omega (arith, full, r.within))));
      }

  pub reads-link : HasRead key link ws true s.past → Answers s link.link (link.slot + 1) → HasLink key link ws s.past.now s.past
  reads-link h a = record { leaf = h; order = h.all.until; until = omega arith; loads = a.loads; led = a.value }

module _ (s : Scene) (good : IsScene s) (key : List ℕ) (link : Link) (ws : List ℕ) (at : ℕ) (h : HasLink key link ws at s.past) (v : ℕ) (a : Answers s link.guard v) (thawed : (status v).frozen ≡ false) where
  since-hung : s.past.since ≤ h.leaf.all.known.hung
  since-hung = h.leaf.all.known.hung_since

  hung-at : h.leaf.all.known.hung ≤ at
  hung-at = omega (arith, h.leaf.all.hung_order, h.order)

  g : IsGood s.past.config (s.past.at at)
  g = good.history.good at (omega (arith, since-hung, hung-at)) h.until

  -- the root's link
  under-root : IsUnderRoot link → is_inside s.past.config (s.past.at at) link.slot ≡ true
  under-root u =
      let r : HasRoot s.past.config (s.past.at at) ((s.past.at at).value ROOT_AT - 1) = roots_are_reached s.past.config (s.past.at at) g in
      let e : (s.past.at at).value ROOT_AT ≡ link.slot + 1 = subst (λ z. (s.past.at at).value z ≡ link.slot + 1) u.pointer h.led in
      let k : (s.past.at at).value ROOT_AT - 1 ≡ link.slot = omega (arith, e) in
      subst (λ z. is_inside s.past.config (s.past.at at) z ≡ true) k r.inside

  -- a child pointer of a node that is in the tree, since it is not frozen later
  under-node : IsUnderNode s.past link h.leaf.all.known.hung → is_inside s.past.config (s.past.at at) link.slot ≡ true
  under-node u =
      children_are_in_trees s.past.config (s.past.at at) u.parent u.child.child link.slot g below parent inner counted pointer
    where
      moments : AreMoments s.past.since s.past.now h.leaf.all.known.hung at
      moments = record { since = since-hung; order = hung-at; until = h.until }

      reached : (s.past.at at).reached u.parent ≡ true
      reached = (fronts_stay s.past.config s.past.at s.past.since s.past.now h.leaf.all.known.hung at u.parent good.history moments u.reached).reached

      separators : SameSeparators (words s.past.config (s.past.at h.leaf.all.known.hung) u.parent) (words s.past.config (s.past.at at) u.parent)
      separators = separators_stay s.past.config s.past.at s.past.since s.past.now h.leaf.all.known.hung at u.parent good.history moments u.reached u.child.inner

      below : u.parent ≢ s.past.config.nodes
      below e = omega (arith, e, g.slots u.parent reached)

      now-status : words s.past.config (here s) u.parent STATUS_AT ≡ v
      now-status = sym (word-at s.past.config (here s) u.parent STATUS_AT (omega arith)) ∙ subst (λ z. (here s).value z ≡ v) u.guard a.value

      not-frozen : (f : Bool) → (page_at s.past.config (s.past.at at) u.parent).frozen ≡ f → f ≡ false
      not-frozen true e =
          let same = frozen_nodes_stay s.past.config s.past.at s.past.since s.past.now at s.past.now u.parent good.history (record { since = omega (arith, since-hung, hung-at); order = h.until; until = omega arith }) reached e in
          absurd (true≢false (sym e ∙ (ap (λ z. (status z).frozen) (sym (same STATUS_AT (inl (omega arith)))) ∙ (ap (λ z. (status z).frozen) now-status ∙ thawed))))
      not-frozen false e = refl

      parent : is_inside s.past.config (s.past.at at) u.parent ≡ true
      parent = elim (g.placed u.parent reached) [ inl i ↦ i | inr f ↦ absurd (true≢false (not-frozen true f)) ]

      inner : 0 < (page_at s.past.config (s.past.at at) u.parent).level
      inner = omega (arith, u.child.inner, ap (λ z. (header z).level) (separators.front HEADER_AT (λ e. omega (arith, e)) (omega arith)))

      counted : u.child.child < (page_at s.past.config (s.past.at at) u.parent).count
      counted = omega (arith, u.child.counted, separators.count)

      place : pointer_at (page_at s.past.config (s.past.at at) u.parent) u.child.child ≡ u.place
      place = ap (λ z. payload_at (extent_of (meta_of z))) (separators.front (META_AT + u.child.child) (λ e. omega (arith, e)) (omega (arith, u.child.counted))) ∙ sym u.child.place

      pointer : words s.past.config (s.past.at at) u.parent (pointer_at (page_at s.past.config (s.past.at at) u.parent) u.child.child) ≡ link.slot + 1
      pointer = ap (words s.past.config (s.past.at at) u.parent) place ∙ (sym (word-at s.past.config (s.past.at at) u.parent u.place u.within) ∙ subst (λ z. (s.past.at at).value z ≡ link.slot + 1) u.pointer h.led)

  pub linked : is_inside s.past.config (s.past.at at) link.slot ≡ true
  linked = elim h.leaf.all.known.under [ inl r ↦ under-root r | inr u ↦ under-node u ]

-- what the phase and the answer are
pub by-phase : (key : List ℕ) (link : Link) (image : NodeImage) (ws : List ℕ) (c : Config) (P : Type 0) (stage : Stage) (s : Scene) (phase other : LeafPhase) (seen told : Seen) → phase ≡ other → seen ≡ told
    → (leaf_facts key link ws other stage s → Tells (leaf_asks c link image other) stage told s → P) → leaf_facts key link ws phase stage s → Tells (leaf_asks c link image phase) stage seen s → P
by-phase key link image ws c P stage s phase other seen told e g h f t =
    h (subst (λ z. leaf_facts key link ws z stage s) e f) (subst (λ z. Tells (leaf_asks c link image z) stage told s) e (subst (λ z. Tells (leaf_asks c link image phase) stage z s) g t))

module _ (key : List ℕ) (link : Link) (image : NodeImage) (ws : List ℕ) (full : length ws ≡ NODE_WORDS) (c : Config) (s : Scene) (same : s.past.config ≡ c) (good : IsScene s) where
  in-slot : (i v : ℕ) → Answers s (node_address c link.slot + i) v → Answers s (node_address s.past.config link.slot + i) v
  in-slot i v t = subst (λ z. Answers s (node_address z link.slot + i) v) (sym same) t

  pub told-status : (stage : Stage) (v : ℕ) (phase : LeafPhase) → IsAfter v 0 phase → leaf_facts key link ws Status stage s → Tells (leaf_asks c link image Status) stage (Was v) s → HasFilled s × leaf_learnt key link (slice_set ws 0 v) phase s.past
  told-status Took v phase a f t = absurd (f)
  told-status Waiting v phase a f t =
      let first : slice_index (slice_set ws 0 v) 0 ≡ v = get_or-set_same ws 0 v 0 (omega (arith, full)) in
      (f.0, goes-on key link (slice_set ws 0 v) 0 s.past phase (omega arith) (reads-status s good key link ws full f.1.0 f.1.1 v (in-slot STATUS_AT v t)) (subst (λ z. IsAfter z 0 phase) (sym first) a))

  pub told-word : (stage : Stage) (i v : ℕ) (phase : LeafPhase) → IsAfter (slice_index (slice_set ws i v) 0) i phase → leaf_facts key link ws (Word i) stage s → Tells (leaf_asks c link image (Word i)) stage (Was v) s → HasFilled s × leaf_learnt key link (slice_set ws i v) phase s.past
  told-word Took i v phase a f t = absurd (f)
  told-word Waiting i v phase a f t = (f.0, goes-on key link (slice_set ws i v) i s.past phase f.1.within (reads-word s good key link ws full i v f.1 (in-slot i v t)) a)

  pub told-again : (stage : Stage) (v now : ℕ) → v ≡ slice_index ws 0 → s.past.now ≡ now → leaf_facts key link ws Again stage s → Tells (leaf_asks c link image Again) stage (Was v) s → HasFilled s × ((view : LeafView) → IsMade view link.slot now ws → IsView key view s.past)
  told-again Took v now e is f t = absurd (f)
  told-again Waiting v now e is f t =
      (f.0, λ view m. thawed-view s good key link ws f.1 (subst (λ z. Answers s (node_address s.past.config link.slot + STATUS_AT) z) e (in-slot STATUS_AT v t)) view (subst (λ z. IsMade view link.slot z ws) (sym is) m))

  pub told-link : (stage : Stage) (v now : ℕ) → v ≡ link.slot + 1 → s.past.now ≡ now → leaf_facts key link ws Of_link stage s → Tells (leaf_asks c link image Of_link) stage (Was v) s → HasFilled s × HasLink key link ws now s.past
  told-link Took v now e is f t = absurd (f)
  told-link Waiting v now e is f t = (f.0, subst (λ z. HasLink key link ws z s.past) is (reads-link s good key link ws full f.1 (subst (λ z. Answers s link.link z) e t)))

  pub told-guard : (stage : Stage) (at v : ℕ) → (status v).frozen ≡ false → leaf_facts key link ws (Guard at) stage s → Tells (leaf_asks c link image (Guard at)) stage (Was v) s → HasFilled s × ((view : LeafView) → IsMade view link.slot at ws → IsView key view s.past)
  told-guard Took at v thawed f t = absurd (f)
  told-guard Waiting at v thawed f t = (f.0, λ view m. frozen-view s good key link ws at f.1 (linked s good key link ws at f.1 v t thawed) view m)

-- what is learnt is known when no slot was taken
pub no-slot : (key : List ℕ) (link : Link) (ws : List ℕ) (s : Scene) (free : FreeSlots) (phase : LeafPhase) → phase ≢ Fresh → HasFilled s × leaf_learnt key link ws phase s.past → leaf_facts key link ws phase Waiting (gained s free free)
no-slot key link ws s free Fresh ne h = absurd (ne refl)
no-slot key link ws s free Status ne h = (nothing_is_gained s free h.0, h.1)
no-slot key link ws s free (Word i) ne h = (nothing_is_gained s free h.0, h.1)
no-slot key link ws s free Again ne h = (nothing_is_gained s free h.0, h.1)
no-slot key link ws s free Of_link ne h = (nothing_is_gained s free h.0, h.1)
no-slot key link ws s free (Guard at) ne h = (nothing_is_gained s free h.0, h.1)
no-slot key link ws s free (Viewed at) ne h = (nothing_is_gained s free h.0, h.1)
no-slot key link ws s free Changed ne h = (nothing_is_gained s free h.0, h.1)
