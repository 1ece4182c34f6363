-- What was found of a leaf whose words stayed from the look at its status on is a view of the key.
use Rattle.std.proofs.Common.{◌≡◌, ℕ, ◌+◌, ◌≤◌, true, false, List, arith, sym, ◌∙◌}
use Rattle.std.specs.Prelude.{slice_index}
use Rattle.bz_layout.specs.Addresses.{node_address}
use Rattle.bz_layout.specs.declared.sizes.TheConstants.{NODE_WORDS, STATUS_AT}
use Rattle.bz_slotted.specs.Page.{page}
use Rattle.bz_slotted.specs.ReadingLaws.{node_of}
use Rattle.bz_slotted.specs.Whole.{Whole}
use Rattle.bz_slotted.proofs.Proved.{leaf_rules_are_facts}
use Rattle.bz_content.specs.Image.{node}
use Rattle.bz_leaf.proofs.Viewing.{Stayed, since-a, status-a, word-durable, leaf-of, thawed-stays, thawed-leaf, frozen-stays, frozen-leaf}
use Rattle.bz_leaf.specs.Facts.{Reading, HasRead}
use Rattle.bz_task.specs.Instant.{durable, form_at, is_inside}
use Rattle.bz_task.specs.Laws.{IsLeafInTree, SaysAlike}
use Rattle.bz_task.specs.Outcomes.{IsKeyView}
use Rattle.bz_task.specs.Requests.{Answers}
use Rattle.bz_task.specs.Scene.{Scene, IsScene, here}
use Rattle.bz_task.specs.declared.path.Link.{Link}
use Rattle.bz_task.specs.declared.view.KeyView.{KeyView}
use Rattle.bz_task.proofs.Proved.{seen_leaves_are_whole}
use Rattle.bz_find.specs.Facts.{IsStill, Ended, Linked, IsReckoned}
use Rattle.bz_find.specs.Knowing.{HasFound}
use Rattle.bz_find.specs.declared.search.Search.{Search}
use Rattle.bz_find.proofs.Same.{count-same, sorted-same, record-same, dead-same}

-- what was found, of a slot with this status, at a moment
abbrev pub viewed : Link → ℕ → Search → ℕ → KeyView
viewed link st t at = record { slot = link.slot; status = st; found = t.found; at = at }

module _ (s : Scene) (good : IsScene s) (link : Link) (ws : List ℕ) (t : Search) (r : Reading t.key link ws NODE_WORDS s.past) (a : ℕ) (from : r.read_at ≤ a) (to : a ≤ s.past.now)
    (stayed : Stayed s link.slot r.read_at) (leaf : IsLeafInTree s.past.config (s.past.at a) link.slot) (loads : s.past.loads a ≡ true) (found : IsStill s.past link ws r.read_at → HasFound (node_of ws) t) where
  alike : SaysAlike s.past.config.nodes (durable s.past.config (s.past.at a) link.slot) (node_of ws) ((form_at s.past.config (s.past.at a)).low link.slot) ((form_at s.past.config (s.past.at a)).high link.slot)
  alike = seen_leaves_are_whole s.past.config.nodes (node s.past.config (s.past.at a).image link.slot) (durable s.past.config (s.past.at a) link.slot) (node_of ws) _ _ leaf.whole (word-durable s good t.key link ws r a from to stayed leaf)

  whole : Whole (node_of ws) (page (node_of ws)) ((form_at s.past.config (s.past.at a)).low link.slot) ((form_at s.past.config (s.past.at a)).high link.slot)
  whole = (leaf_rules_are_facts s.past.config.nodes (node_of ws) (node_of ws) _ _).0 alike.whole

  has : HasFound (node_of ws) t
  has = found (record { same = stayed; low = (form_at s.past.config (s.past.at a)).low link.slot; high = (form_at s.past.config (s.past.at a)).high link.slot; whole = whole })

  pub is-key-view : (st : ℕ) → slice_index ws 0 ≡ st → IsKeyView t.key (viewed link st t a) s.past
  is-key-view st e = record {
    since = since-a s good t.key link ws r a from to stayed leaf;
    now = to;
    loads = loads;
    leaf = leaf-of s good t.key link ws r a from to stayed leaf;
    slot = r.known.slot;
    status = status-a s good t.key link ws r a from to stayed leaf ∙ e;
    plain = rw (← e) r.plain;
    says = sym (alike.found t.key) ∙ has.says;
    shows = λ f q. record-same (durable s.past.config (s.past.at a) link.slot) (node_of ws) (word-durable s good t.key link ws r a from to stayed leaf) t.key f (has.shows f q);
  }

  pub is-reckoned : IsReckoned (durable s.past.config (s.past.at a) link.slot) t t.key
  is-reckoned =
      let same = word-durable s good t.key link ws r a from to stayed leaf in
      let n = durable s.past.config (s.past.at a) link.slot in
      let c = count-same n (node_of ws) same in
      let d = sorted-same n (node_of ws) same in
      record {
        count = has.counts.count ∙ c;
        sorted = has.counts.sorted ∙ d;
        dead = has.met ∙ dead-same n (node_of ws) same t.key (omega (arith, whole.filled.sorted, c, d));
      }

module _ (s : Scene) (good : IsScene s) (link : Link) (st : ℕ) (t : Search) where
  -- not frozen: the status is the same now
  module _ (h : Ended t.key link st t false s.past) (a : Answers s (node_address s.past.config link.slot + STATUS_AT) st) where
    abbrev read : HasRead t.key link h.opened.ws false s.past
    read = record { all = h.opened.reading; is = rw h.opened.status h.is }

    again : Answers s (node_address s.past.config link.slot + STATUS_AT) (slice_index h.opened.ws 0)
    again = rw h.opened.status a

    pub thawed-key : IsKeyView t.key (viewed link st t s.past.now) s.past
    thawed-key =
        is-key-view s good link h.opened.ws t h.opened.reading s.past.now h.opened.reading.until (omega arith) (thawed-stays s good t.key link h.opened.ws read again) (thawed-leaf s good t.key link h.opened.ws read again) a.loads h.found st h.opened.status

    pub thawed-reckoned : IsReckoned (durable s.past.config (here s) link.slot) t t.key
    thawed-reckoned =
        is-reckoned s good link h.opened.ws t h.opened.reading s.past.now h.opened.reading.until (omega arith) (thawed-stays s good t.key link h.opened.ws read again) (thawed-leaf s good t.key link h.opened.ws read again) a.loads h.found

  -- frozen: the link led to it, and its guard is not frozen now
  module _ (at : ℕ) (h : Linked t.key link st t at s.past) (inside : is_inside s.past.config (s.past.at at) link.slot ≡ true) where
    pub frozen-key : IsKeyView t.key (viewed link st t at) s.past
    frozen-key =
        is-key-view s good link h.ws t h.led.leaf.all at h.led.order h.led.until (frozen-stays s good t.key link h.ws at h.led) (frozen-leaf s good t.key link h.ws at h.led inside) h.led.loads h.found st h.status

    pub frozen-reckoned : IsReckoned (durable s.past.config (s.past.at at) link.slot) t t.key
    frozen-reckoned = is-reckoned s good link h.ws t h.led.leaf.all at h.led.order h.led.until (frozen-stays s good t.key link h.ws at h.led) (frozen-leaf s good t.key link h.ws at h.led inside) h.led.loads h.found
