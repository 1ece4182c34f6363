-- What follows for a leaf while its status is the one that was read, and of the swaps on its records.
use Rattle.std.specs.Prelude.{◌≡◌, ◌≢◌, ℕ, ◌+◌, ◌^◌, ◌<◌, ◌≤◌, ◌⊎◌, true, false, List, All, Option, Some, None}
use Rattle.bz_layout.specs.Addresses.{node_address}
use Rattle.bz_layout.specs.declared.config.Config.{Config}
use Rattle.bz_layout.specs.declared.sizes.TheConstants.{STATUS_AT, SHARED_WORDS}
use Rattle.bz_slotted.specs.Page.{meta_of, visible, held, used, extent_of, page}
use Rattle.bz_slotted.specs.ReadingLaws.{node_of}
use Rattle.bz_slotted.specs.Readers.{found_of}
use Rattle.bz_slotted.specs.Records.{key_in, payload_in, key_at, weight, shown}
use Rattle.bz_slotted.specs.Whole.{IsLeafRecord, IsInBlock, IsPlainKey, IsPlainPayload, Disjoint}
use Rattle.bz_word.specs.Statuses.{status}
use Rattle.bz_word.specs.declared.meta.Meta.{Meta}
use Rattle.bz_word.specs.declared.meta.Meta.TheVariants.{Visible}
use Rattle.bz_content.specs.Image.{node}
use Rattle.bz_task.specs.FromSwap.SwapMemory.{is_target}
use Rattle.bz_task.specs.Instant.{Instant, words, durable, form_at}
use Rattle.bz_task.specs.Laws.{SamePlace, IsLeafInTree, SlotWords}
use Rattle.bz_task.specs.LeafSwaps.{IsWordOf, SaysChange}
use Rattle.bz_task.specs.Outcomes.{payload_of, IsView, IsKeyView}
use Rattle.bz_task.specs.PairSwaps.{IsLeafChanged}
use Rattle.bz_task.specs.Requests.{IsTarget, IsEntryToAsk}
use Rattle.bz_task.specs.Scene.{Past, Scene, IsScene, Continues, here}
use Rattle.bz_task.specs.Shown.{SameWords, SameShownNode}
use Rattle.bz_task.specs.Steps.{next_stamp}
use Rattle.bz_task.specs.Swaps.{Change, Stand, SwapsTo, IsMineAndDurable, IsGoodSwap, Takes}
use Rattle.bz_task.specs.declared.view.KeyView.{KeyView}
use Rattle.bz_task.specs.declared.view.LeafView.{LeafView}
use Rattle.bz_record.specs.Leaves.{WasLeafThen, WasLeafOf, WasReserved}
use Rattle.bz_record.specs.Records.{place_of, Fits}
use Rattle.bz_record.specs.Swaps.{entries_of, reservation, publication}
use Rattle.bz_record.specs.Writing.{IsWritingRecord, HasWritten}
use Rattle.bz_record.specs.declared.new_record.NewRecord.{NewRecord}
use Rattle.bz_record.specs.declared.record_swap.RecordSwap.{RecordSwap}

-- a leaf of the tree is as it was, in what reads answer and in the image
pub record SameLeaf (c : Config) (x y : Instant) (k : ℕ) : Type 0 where
  pub leaf : IsLeafInTree c y k
  pub place : SamePlace c x y k
  pub shows : SameShownNode c x y k
  pub stands : SameWords (durable c x k) (durable c y k)
  pub found : (key : List ℕ) → found_of (durable c y k) key ≡ found_of (durable c x k) key

-- while its status is the one that was read, and not frozen
abbrev pub LeavesStay : Type 0
LeavesStay =
    (s : Scene) (k st moment : ℕ) → IsScene s → WasLeafThen k st moment s.past → (status st).frozen ≡ false → words s.past.config (here s) k STATUS_AT ≡ st →
    SameLeaf s.past.config (s.past.at moment) (here s) k

-- a view shows the key's leaf, and what it says of the key; no more words are dead than the block has
pub record IsViewed (key : List ℕ) (view : LeafView) (p : Past) : Type 0 where
  pub leaf : WasLeafOf key (found_of (node_of view.image.0) key) view.slot view.status view.at p
  pub dead : (status view.status).dead ≤ (status view.status).block
  pub room : (status view.status).count + (status view.status).block ≤ SHARED_WORDS

abbrev pub ViewsShowLeaves : Type 0
ViewsShowLeaves = (key : List ℕ) (view : LeafView) (s : Scene) → IsScene s → IsView key view s.past → IsViewed key view s.past

-- so does a view of the key alone
pub record IsKeyViewed (key : List ℕ) (view : KeyView) (p : Past) : Type 0 where
  pub leaf : WasLeafOf key (payload_of view.found) view.slot view.status view.at p
  pub dead : (status view.status).dead ≤ (status view.status).block
  pub room : (status view.status).count + (status view.status).block ≤ SHARED_WORDS

abbrev pub KeyViewsShowLeaves : Type 0
KeyViewsShowLeaves = (key : List ℕ) (view : KeyView) (s : Scene) → IsScene s → IsKeyView key view s.past → IsKeyViewed key view s.past

-- what was so, was so
pub record LeavesWere : Type 0 where
  pub leaf : (key : List ℕ) (said : Option (List ℕ)) (k st moment : ℕ) (p q : Past) → WasLeafOf key said k st moment p → Continues p q → WasLeafOf key said k st moment q
  pub reserved : (r : NewRecord) (p q : Past) → WasReserved r p → Continues p q → WasReserved r q

-- a metadata word in use, or the next one of a leaf with a free word
abbrev pub IsPlaceIn : ℕ → ℕ → Type 0
IsPlaceIn st place = (place < (status st).count) ⊎ ((place ≡ (status st).count) × ((status st).count + (status st).block < SHARED_WORDS))

-- a swap of a leaf's status and of such a metadata word may be asked for, whatever became of the leaf
abbrev pub RecordSwapsMayBeAsked : Type 0
RecordSwapsMayBeAsked =
    (s : Scene) (w : RecordSwap) (moment : ℕ) → IsScene s → WasLeafThen w.slot w.status moment s.past → IsPlaceIn w.status w.place → w.new_status < 2 ^ 61 → w.meta < 2 ^ 61 → w.new_meta < 2 ^ 61 →
    All (IsEntryToAsk s) (entries_of s.past.config w)

-- so may the two swaps of a record that comes
pub record NewRecordSwapsMayBeAsked : Type 0 where
  pub first : (s : Scene) (r : NewRecord) (moment : ℕ) → IsScene s → Fits r → WasLeafThen r.slot r.status moment s.past → All (IsEntryToAsk s) (entries_of s.past.config (reservation r))
  pub second : (s : Scene) (r : NewRecord) → IsScene s → Fits r → WasReserved r s.past → All (IsEntryToAsk s) (entries_of s.past.config (publication r))

-- where the status is the one that was read, a reservation is lawful for everybody and changes no content
abbrev pub ReservationsAreGood : Type 0
ReservationsAreGood =
    (s : Scene) (y : Instant) (r : NewRecord) (moment : ℕ) (change : Change) → IsScene s → Fits r → WasLeafThen r.slot r.status moment s.past →
    Stand (entries_of s.past.config (reservation r)) (here s) → SwapsTo s.past.config (entries_of s.past.config (reservation r)) (here s) y →
    IsGoodSwap false change (entries_of s.past.config (reservation r)) s y

-- afterwards the record has its place in the leaf, and its words are the worker's own
pub record HasReserved (r : NewRecord) (after : Scene) : Type 0 where
  pub reserved : WasReserved r after.past
  pub words : IsWritingRecord r 0 0 after

abbrev pub ReservationsTakeWords : Type 0
ReservationsTakeWords =
    (s after : Scene) (r : NewRecord) (moment : ℕ) → IsScene s → IsScene after → Fits r → WasLeafOf r.key None r.slot r.status moment s.past →
    Stand (entries_of s.past.config (reservation r)) (here s) → Takes false (entries_of s.past.config (reservation r)) s after →
    HasReserved r after

-- a status with count and block as they were, not frozen, and the next stamp
pub record Restates (old new : ℕ) : Type 0 where
  pub plain : new < 2 ^ 61
  pub thawed : (status new).frozen ≡ false
  pub count : (status new).count ≡ (status old).count
  pub block : (status new).block ≡ (status old).block
  pub stamp : (status new).stamp ≡ next_stamp (status old).stamp

-- the record at a place of a leaf, whose words are n and as they stand raw, says mt from now on, as the change wants it
pub record IsRewriteOf (raw n : ℕ → ℕ) (place : ℕ) (mt : Meta) (change : Change) : Type 0 where
  pub used : used mt ≡ true
  pub lengths : IsLeafRecord mt
  pub in_block : held mt ≡ true → IsInBlock (page n) mt
  pub apart : (i : ℕ) → i < (page n).count → i ≢ place → held mt ≡ true → held ((page n).meta i) ≡ true → Disjoint ((page n).meta i) mt
  -- a visible record is that of the key, with the new payload; no other record is one of the key
  pub key : visible mt ≡ true → IsPlainKey raw n (extent_of mt)
  pub payload : visible mt ≡ true → IsPlainPayload raw n (extent_of mt)
  pub is_key : visible mt ≡ true → key_in n (extent_of mt) ≡ change.key
  pub is_new : visible mt ≡ true → Some (payload_in n (extent_of mt)) ≡ change.new
  pub tail : visible mt ≡ true → ((page n).sorted ≤ place) ⊎ (visible ((page n).meta place) ≡ true)
  pub distinct : (i : ℕ) → i < (page n).count → i ≢ place → visible mt ≡ true → visible ((page n).meta i) ≡ true → key_at (page n) i ≢ change.key
  -- so was the one that had the place, if it was visible; where none is visible afterwards, the key is gone
  pub was_key : visible ((page n).meta place) ≡ true → key_at (page n) place ≡ change.key
  pub gone : visible mt ≡ false → (visible ((page n).meta place) ≡ true) × (change.new ≡ None)

-- a swap that does so, at the leaf of the change's key
pub record IsRewrite (w : RecordSwap) (mt : Meta) (change : Change) (s : Scene) : Type 0 where
  pub moment : ℕ
  pub leaf : WasLeafOf change.key change.old w.slot w.status moment s.past
  pub thawed : (status w.status).frozen ≡ false
  pub states : Restates w.status w.new_status
  pub dead : (status w.new_status).dead + shown mt ≡ (status w.status).dead + shown (meta_of w.meta)
  pub counted : w.place < (status w.status).count
  pub says : meta_of w.new_meta ≡ mt
  pub rewrites : IsRewriteOf (node s.past.config (here s).image w.slot) (durable s.past.config (here s) w.slot) w.place mt change
  pub own : (i : ℕ) → visible mt ≡ true → (extent_of mt).offset ≤ i → i < (extent_of mt).offset + weight mt → IsMineAndDurable s (node_address s.past.config w.slot + i)

-- the leaf after a swap of its status and of that metadata word: it is changed as nodes are, breaks no rule, and says the change
-- and nothing else; both words are its, and may be named
pub record IsRewritten (w : RecordSwap) (change : Change) (s : Scene) (y : Instant) : Type 0 where
  pub leaf : IsLeafChanged s w.slot y
  pub says : SaysChange change (durable s.past.config (here s) w.slot) (durable s.past.config y w.slot) ((form_at s.past.config (here s)).low w.slot) ((form_at s.past.config (here s)).high w.slot)
  pub place : (a : ℕ) → is_target (entries_of s.past.config w) a ≡ true → IsWordOf s w.slot a
  pub targets : (a : ℕ) → is_target (entries_of s.past.config w) a ≡ true → IsTarget s a

-- so it is whatever else the swap names in other slots
abbrev pub RewritesChangeTheirLeaf : Type 0
RewritesChangeTheirLeaf =
    (s : Scene) (y : Instant) (w : RecordSwap) (mt : Meta) (change : Change) → IsScene s → IsRewrite w mt change s →
    Stand (entries_of s.past.config w) (here s) → SlotWords s.past.config (entries_of s.past.config w) (here s) y w.slot → IsRewritten w change s y

-- a publication, a delete and the second swap of an update: where status and metadata word are the ones that are expected, it
-- is lawful for everybody, and makes the change
abbrev pub RewritesAreGood : Type 0
RewritesAreGood =
    (s : Scene) (y : Instant) (w : RecordSwap) (mt : Meta) (change : Change) → IsScene s → IsRewrite w mt change s →
    Stand (entries_of s.past.config w) (here s) → SwapsTo s.past.config (entries_of s.past.config w) (here s) y →
    IsGoodSwap true change (entries_of s.past.config w) s y

-- the change that the publication of a record makes: its key was absent
abbrev pub inserts : NewRecord → Change
inserts r = record { key = r.key; old = None; new = Some r.payload }

-- where both words are the ones that are expected, a publication of words that are the worker's own and durable is such a swap
abbrev pub PublicationsRewrite : Type 0
PublicationsRewrite =
    (s : Scene) (r : NewRecord) → IsScene s → Fits r → WasReserved r s.past → HasWritten r s → Stand (entries_of s.past.config (publication r)) (here s) →
    IsRewrite (publication r) (Visible (place_of r)) (inserts r) s

abbrev pub PublicationsAreGood : Type 0
PublicationsAreGood =
    (s : Scene) (y : Instant) (r : NewRecord) → IsScene s → Fits r → WasReserved r s.past → HasWritten r s →
    Stand (entries_of s.past.config (publication r)) (here s) → SwapsTo s.past.config (entries_of s.past.config (publication r)) (here s) y →
    IsGoodSwap true (inserts r) (entries_of s.past.config (publication r)) s y
