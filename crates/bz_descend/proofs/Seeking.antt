-- What a descent by halving learns at each of its phases.
use Rattle.std.proofs.Common.{◌≡◌, ◌≢◌, ℕ, ◌+◌, ◌-◌, ◌<◌, ◌≤◌, if◌then◌else◌, Bool, true, false, List, length, take, set, arith, refl, sym, ap, subst, ◌∙◌, inl, inr}
use Rattle.std.proofs.lemmas.Bool.{cases_lt}
use Rattle.std.proofs.lemmas.Bool.Decides.{nat_tests}
use Rattle.std.proofs.lemmas.List.{length-set}
use Rattle.std.specs.Prelude.{Some, nat_lt, slice_get, slice_index}
use Rattle.bz_key.specs.Packing.{packed_len, unpacked_key}
use Rattle.bz_layout.specs.Addresses.{node_address}
use Rattle.bz_layout.specs.Slots.{FreeSlots}
use Rattle.bz_layout.specs.declared.config.Config.{Config}
use Rattle.bz_layout.specs.declared.sizes.TheConstants.{STATUS_AT, META_AT, FENCE_WORDS}
use Rattle.bz_tree.specs.Order.{is_before}
use Rattle.bz_slotted.specs.Page.{meta_of, extent_of, page}
use Rattle.bz_slotted.specs.Readers.{key_of}
use Rattle.bz_word.specs.Headers.{header}
use Rattle.bz_word.specs.Statuses.{status}
use Rattle.bz_word.specs.declared.meta.Extent.{Extent}
use Rattle.bz_task.specs.Instant.{words}
use Rattle.bz_task.specs.OwnActs.{gained}
use Rattle.bz_task.specs.Requests.{Answers, Tells}
use Rattle.bz_task.specs.Scene.{Scene, Stage, Waiting, Took, IsScene, HasFilled, here}
use Rattle.bz_task.specs.declared.path.Path.{Path}
use Rattle.bz_task.specs.declared.todo.Seen.{Seen}
use Rattle.bz_task.specs.declared.todo.Seen.TheVariants.{Read as Was}
use Rattle.bz_task.proofs.Proved.{nothing_is_gained}
use Rattle.bz_descend.specs.Halving.{sight_in, Narrows, Sees, SeesFirst}
use Rattle.bz_descend.specs.Inners.{Opened}
use Rattle.bz_descend.specs.Ways.{Arrives}
use Rattle.bz_descend.specs.SeekFacts.{IsUnder, arrived_at, seek_asks, seek_learnt, seek_facts}
use Rattle.bz_descend.specs.declared.sight.Probe.{Probe}
use Rattle.bz_descend.specs.declared.sight.Sight.{Sight}
use Rattle.bz_descend.specs.declared.sight.Way.{Way}
use Rattle.bz_descend.specs.declared.sight.Way.TheVariants.{Fresh, Guard, Root, Header, Status, Meta, Word, First, Pointer, Found, Changed}
use Rattle.bz_descend.proofs.Arriving.{root_link, root-arrives, child-met}
use Rattle.bz_descend.proofs.Leading.{word-of, link_to}
use Rattle.bz_descend.proofs.Narrowing.{narrows-first, narrows-lower, narrows-upper, learns-part}
use Rattle.bz_descend.proofs.Reading.{header-was, leaf-met, opens}
use Rattle.bz_descend.proofs.Separating.{meta-at, more-read, all-read}

-- what the phase and the answer are
pub by-way : (key : List ℕ) (path : Path) (height : ℕ) (ws : List ℕ) (c : Config) (P : Type 0) (stage : Stage) (s : Scene) (phase other : Way) (seen told : Seen) → phase ≡ other → seen ≡ told
    → (seek_facts key path height ws other stage s → Tells (seek_asks c other) stage told s → P) → seek_facts key path height ws phase stage s → Tells (seek_asks c phase) stage seen s → P
by-way key path height ws c P stage s phase other seen told e g h f t =
    h (subst (λ z. seek_facts key path height ws z stage s) e f) (subst (λ z. Tells (seek_asks c z) stage told s) e (subst (λ z. Tells (seek_asks c phase) stage z s) g t))

module _ (key : List ℕ) (path : Path) (height : ℕ) (ws : List ℕ) (c : Config) (s : Scene) (same : s.past.config ≡ c) (good : IsScene s) where
  -- a word of a slot, told of the scene's sizes
  in-slot : (k i v : ℕ) → Answers s (node_address c k + i) v → Answers s (node_address s.past.config k + i) v
  in-slot k i v a = subst (λ z. Answers s (node_address z k + i) v) (sym same) a

  pub seen-guard : (stage : Stage) (v : ℕ) → seek_facts key path height ws Guard stage s → Tells (seek_asks c Guard) stage (Was v) s → HasFilled s × seek_learnt key path height ws (Root v) s.past
  seen-guard Took v f t = absurd (f)
  seen-guard Waiting v f t = (f.0, record { guarded = s.past.now; begun = good.begun; until = omega arith; value = t.value })

  pub seen-root : (stage : Stage) (st v : ℕ) (next : Path) → next.depth ≡ 1 → slice_get next.links 0 ≡ Some (root_link st (v - 1))
      → seek_facts key path height ws (Root st) stage s → Tells (seek_asks c (Root st)) stage (Was v) s → HasFilled s × seek_learnt key next height ws (Header (v - 1)) s.past
  seen-root Took st v next deep first f t = absurd (f)
  seen-root Waiting st v next deep first f t = (f.0, root-arrives key s good st v f.1 t next deep first)

  -- the node to which a path leads is a leaf where the path has a link for each level
  pub arrived : (next : Path) (high k : ℕ) (a : Arrives key next k s.past) → IsUnder high key next k s.past a → seek_learnt key next high ws (arrived_at high next.depth k) s.past
  arrived next high k a u = elim (cases_lt high next.depth) [
    | inl l ↦ (let t : nat_lt high next.depth ≡ true = grind (arith, nat_tests) in rw t (leaf-met key next s good k a (omega (arith, l, u))))
    | inr l ↦ (let t : nat_lt high next.depth ≡ false = grind (arith, nat_tests) in rw t (record { node = a; inner = omega (arith, l, u) }, u))
  ]

  pub seen-header : (stage : Stage) (k v high : ℕ) → path.depth ≡ 1 → high ≡ (header v).level → seek_facts key path height ws (Header k) stage s → Tells (seek_asks c (Header k)) stage (Was v) s → HasFilled s × seek_learnt key path high ws (arrived_at high path.depth k) s.past
  seen-header Took k v high deep e f t = absurd (f)
  seen-header Waiting k v high deep e f t = (f.0, arrived path high k f.1 (omega (arith, header-was key path s good k v f.1 (in-slot k _ v t), deep, e)))

  pub seen-status : (stage : Stage) (k v : ℕ) (phase : Way) → ((status v).frozen ≡ true → phase ≡ Changed) → ((status v).frozen ≡ false → phase ≡ sight_in k v (status v).count 0 1 (status v).count)
      → seek_facts key path height ws (Status k) stage s → Tells (seek_asks c (Status k)) stage (Was v) s → HasFilled s × seek_learnt key path height ws phase s.past
  seen-status Took k v phase stops goes f t = absurd (f)
  seen-status Waiting k v phase stops goes f t = (f.0, go (status v).frozen refl)
    where
      go : (z : Bool) → (status v).frozen ≡ z → seek_learnt key path height ws phase s.past
      go true e = subst (λ y. seek_learnt key path height ws y s.past) (sym (stops e)) (record {
        slot = k;
        node = f.1.0;
        moment = s.past.now;
        order = f.1.0.node.until;
        now = omega arith;
        frozen = ap (λ z. (status z).frozen) (sym (word-of s.past.config (here s) k STATUS_AT (omega arith)) ∙ (in-slot k STATUS_AT v t).value) ∙ e;
      })
      go false e =
          let o : Opened key path k v s.past = opens key path s good k v f.1.0 (in-slot k _ v t) e in
          let n = words s.past.config (s.past.at o.guarded) k in
          let all : (status v).count ≡ (page n).count = ap (λ z. (status z).count) (sym o.value) in
          subst (λ y. seek_learnt key path height ws y s.past) (sym (goes e))
          (learns-part key path height ws k v (status v).count 0 1 (status v).count s.past o all (subst (λ z. Narrows key n 0 1 z) (sym all) (narrows-first key n o.inner.some)) f.1.1)

  counted : (r : Sight) (l : Sees key path r s.past) → r.part.index < (page (words s.past.config (s.past.at l.opened.guarded) r.slot)).count
  counted r l = omega (arith, l.index, l.some, l.narrows.within)

  pub seen-meta : (stage : Stage) (r : Sight) (v : ℕ) → seek_facts key path height ws (Meta r) stage s → Tells (seek_asks c (Meta r)) stage (Was v) s → HasFilled s × seek_learnt key path height ws (Word r (extent_of (meta_of v)) 0) s.past
  seen-meta Took r v f t = absurd (f)
  seen-meta Waiting r v f t =
      let l : Sees key path r s.past = f.1.0 in
      let e = meta-at key path s good r.slot r.status l.opened r.part.index (counted r l) v (in-slot r.slot (META_AT + r.part.index) v t) in (
        f.0,
        (
          record {
            sees = l;
            extent = e;
            within = subst (λ z. 0 < packed_len z.key) e (let q = (l.opened.inner.lengths r.part.index (counted r l)).some (omega (arith, l.index, l.some, l.narrows.some)) in omega (arith, q));
            read = λ j z. absurd (omega (arith, z));
          },
          f.1.1,
        ),
      )

  pub seen-word : (stage : Stage) (r : Sight) (e : Extent) (i v : ℕ) (phase : Way) → length ws ≡ FENCE_WORDS → (i + 1 < packed_len e.key → phase ≡ Word r e (i + 1))
      → (packed_len e.key ≤ i + 1 → (separator : List ℕ) → unpacked_key e.key (take (packed_len e.key) (set ws i v)) ≡ Some separator → phase ≡ if is_before key separator then sight_in r.slot r.status r.count r.pointer r.part.low r.part.index else sight_in r.slot r.status r.count (e.offset + packed_len e.key) (r.part.index + 1) r.part.high)
      → seek_facts key path height ws (Word r e i) stage s → Tells (seek_asks c (Word r e i)) stage (Was v) s → HasFilled s × seek_learnt key path height (set ws i v) phase s.past
  seen-word Took r e i v phase full more done f t = absurd (f)
  seen-word Waiting r e i v phase full more done f t = (
    f.0,
    elim (cases_lt (i + 1) (packed_len e.key)) [
      | inl l ↦ subst (λ y. seek_learnt key path height (set ws i v) y s.past) (sym (more l)) (record { sees = f.1.0.sees; extent = f.1.0.extent; within = l; read = read }, f.1.1)
      | inr l ↦ (
          let says : unpacked_key e.key (take (packed_len e.key) (set ws i v)) ≡ Some (key_of (words s.past.config (s.past.at f.1.0.sees.opened.guarded) r.slot) r.part.index) = all-read key path s good r.slot r.status f.1.0.sees.opened r.part.index at e f.1.0.extent (set ws i v) (length-set ws i v ∙ full) later (λ z d. read z (omega (arith, d, l))) in
          subst (λ y. seek_learnt key path height (set ws i v) y s.past) (sym (done l (key_of (words s.past.config (s.past.at f.1.0.sees.opened.guarded) r.slot) r.part.index) says)) (go (is_before key (key_of (words s.past.config (s.past.at f.1.0.sees.opened.guarded) r.slot) r.part.index)) refl))
    ],
  )
    where
      at : r.part.index < (page (words s.past.config (s.past.at f.1.0.sees.opened.guarded) r.slot)).count
      at = counted r f.1.0.sees

      later : 0 < r.part.index
      later = omega (arith, f.1.0.sees.index, f.1.0.sees.some, f.1.0.sees.narrows.some)

      read : (z : ℕ) → z < i + 1 → slice_index (set ws i v) z ≡ words s.past.config (s.past.at f.1.0.sees.opened.guarded) r.slot (e.offset + z)
      read = more-read key path s good r.slot r.status f.1.0.sees.opened r.part.index (counted r f.1.0.sees) e f.1.0.extent ws i v full f.1.0.within (in-slot r.slot (e.offset + i) v t) f.1.0.read

      go : (z : Bool) → is_before key (key_of (words s.past.config (s.past.at f.1.0.sees.opened.guarded) r.slot) r.part.index) ≡ z → seek_learnt key path height (set ws i v) (if z then sight_in r.slot r.status r.count r.pointer r.part.low r.part.index else sight_in r.slot r.status r.count (e.offset + packed_len e.key) (r.part.index + 1) r.part.high) s.past
      go true q =
          learns-part key path height (set ws i v) r.slot r.status r.count r.pointer r.part.low r.part.index s.past f.1.0.sees.opened f.1.0.sees.all
          (narrows-lower key (words s.past.config (s.past.at f.1.0.sees.opened.guarded) r.slot) r.pointer r.part.low r.part.high r.part.index f.1.0.sees.narrows (omega (arith, f.1.0.sees.index, f.1.0.sees.some)) (omega (arith, f.1.0.sees.index, f.1.0.sees.some)) q) f.1.1
      go false q =
          learns-part key path height (set ws i v) r.slot r.status r.count (e.offset + packed_len e.key) (r.part.index + 1) r.part.high s.past f.1.0.sees.opened f.1.0.sees.all
          (narrows-upper key (words s.past.config (s.past.at f.1.0.sees.opened.guarded) r.slot) r.pointer r.part.low r.part.high r.part.index f.1.0.sees.narrows (omega (arith, f.1.0.sees.index, f.1.0.sees.some)) (omega (arith, f.1.0.sees.index, f.1.0.sees.some)) (e.offset + packed_len e.key) (ap (λ z. z.offset + packed_len z.key) (sym f.1.0.extent)) q) f.1.1

  pub seen-first : (stage : Stage) (r : Probe) (v pointer : ℕ) → pointer ≡ (extent_of (meta_of v)).offset + packed_len (extent_of (meta_of v)).key → seek_facts key path height ws (First r) stage s → Tells (seek_asks c (First r)) stage (Was v) s → HasFilled s × seek_learnt key path height ws (Pointer (record r { pointer = pointer })) s.past
  seen-first Took r v pointer e f t = absurd (f)
  seen-first Waiting r v pointer e f t =
      let l : SeesFirst key path r s.past = f.1.0 in
      let q = meta-at key path s good r.slot r.status l.opened 0 l.opened.inner.some v (in-slot r.slot META_AT v t) in (
        f.0,
        (
          record {
            opened = l.opened;
            child = 0;
            chooses = record { counted = l.opened.inner.some; from = λ z. absurd (omega (arith, z)); to = λ z. l.right (omega (arith, z, l.all)) };
            place = e ∙ ap (λ z. z.offset + packed_len z.key) (sym q);
          },
          f.1.1,
        ),
      )

  pub seen-pointer : (stage : Stage) (r : Probe) (v : ℕ) (next : Path) → next.depth ≡ path.depth + 1 → slice_get next.links path.depth ≡ Some (link_to c r (v - 1)) → ((i : ℕ) → i < path.depth → slice_get next.links i ≡ slice_get path.links i)
      → seek_facts key path height ws (Pointer r) stage s → Tells (seek_asks c (Pointer r)) stage (Was v) s → HasFilled s × seek_learnt key next height ws (arrived_at height next.depth (v - 1)) s.past
  seen-pointer Took r v next deep at others f t = absurd (f)
  seen-pointer Waiting r v next deep at others f t =
      let m = child-met key s good path r f.1.0 v (in-slot r.slot r.pointer v t) next deep (subst (λ z. slice_get next.links path.depth ≡ Some (link_to z r (v - 1))) (sym same) at) others in
      (f.0, arrived next height (v - 1) m.0 (omega (arith, m.1, f.1.1, deep)))

-- what is learnt is known when no slot was taken
pub seek-no-slot : (key : List ℕ) (path : Path) (height : ℕ) (ws : List ℕ) (s : Scene) (free : FreeSlots) (phase : Way) → phase ≢ Fresh → HasFilled s × seek_learnt key path height ws phase s.past → seek_facts key path height ws phase Waiting (gained s free free)
seek-no-slot key path height ws s free Fresh ne h = absurd (ne refl)
seek-no-slot key path height ws s free Guard ne h = (nothing_is_gained s free h.0, h.1)
seek-no-slot key path height ws s free (Root st) ne h = (nothing_is_gained s free h.0, h.1)
seek-no-slot key path height ws s free (Header k) ne h = (nothing_is_gained s free h.0, h.1)
seek-no-slot key path height ws s free (Status k) ne h = (nothing_is_gained s free h.0, h.1)
seek-no-slot key path height ws s free (Meta r) ne h = (nothing_is_gained s free h.0, h.1)
seek-no-slot key path height ws s free (Word r e i) ne h = (nothing_is_gained s free h.0, h.1)
seek-no-slot key path height ws s free (First r) ne h = (nothing_is_gained s free h.0, h.1)
seek-no-slot key path height ws s free (Pointer r) ne h = (nothing_is_gained s free h.0, h.1)
seek-no-slot key path height ws s free Found ne h = (nothing_is_gained s free h.0, h.1)
seek-no-slot key path height ws s free Changed ne h = (nothing_is_gained s free h.0, h.1)
