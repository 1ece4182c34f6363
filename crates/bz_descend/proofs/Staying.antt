-- What a descent has learnt stays.
use Rattle.std.proofs.Common.{◌≡◌, ℕ, ◌+◌, ◌<◌, ◌≤◌, true, List, arith, sym, subst, inl, inr}
use Rattle.bz_layout.specs.declared.config.Config.{Config}
use Rattle.bz_layout.specs.declared.sizes.TheConstants.{STATUS_AT, ROOT_STATUS_AT}
use Rattle.bz_layout.specs.declared.thresholds.TheConstants.{MAX_LEVELS}
use Rattle.bz_slotted.specs.Page.{page}
use Rattle.bz_slotted.specs.Records.{pointer_at}
use Rattle.bz_task.specs.Instant.{Instant, words, page_at}
use Rattle.bz_task.specs.Outcomes.{IsUnderNode, IsGuarded, IsLink}
use Rattle.bz_task.specs.Scene.{Past, Continues}
use Rattle.bz_task.specs.declared.path.Link.{Link}
use Rattle.bz_task.specs.declared.path.Path.{Path}
use Rattle.bz_descend.specs.Facts.{SawGuard}
use Rattle.bz_descend.specs.Inners.{IsInner, Opened, HasChosen}
use Rattle.bz_descend.specs.Ways.{HasKey, Chooses, IsWay, Arrives, ArrivesAtInner, MeetsFrozen}
use Rattle.bz_descend.specs.declared.sight.Probe.{Probe}

module _ (p q : Past) (n : Continues p q) where
  -- what held of the sizes and the memory at a past moment
  pub moved : (P : Config → Instant → Type 0) (m : ℕ) → m ≤ p.now → P p.config (p.at m) → P q.config (q.at m)
  moved P m h f = subst (λ c. P c (q.at m)) (sym n.config) (subst (λ x. P p.config x) (sym (n.at m h)) f)

  pub under : (link : Link) (m : ℕ) → m ≤ p.now → IsUnderNode p link m → IsUnderNode q link m
  under link m h u = record {
    parent = u.parent;
    place = u.place;
    reached = rw (n.at m h) u.reached;
    within = u.within;
    child = rw (n.config, n.at m h) u.child;
    pointer = rw n.config u.pointer;
    guard = rw n.config u.guard;
  }

  pub guarded : (link : Link) → IsGuarded p link → IsGuarded q link
  guarded link g =
      let h : g.guarded ≤ p.now = omega (arith, g.order, g.now) in record {
        guarded = g.guarded;
        read = g.read;
        since = omega (arith, g.since, n.since);
        order = g.order;
        now = omega (arith, g.now, n.now);
        under = elim g.under [ inl r ↦ inl r | inr u ↦ inr (under link g.guarded h u) ];
        status = rw (n.at g.guarded h) g.status;
        slot = rw (n.at g.read g.now) g.slot;
      }

  pub link-stays : (key : List ℕ) (link : Link) → IsLink key p link → IsLink key q link
  link-stays key link l = record {
    was = l.was;
    since = omega (arith, l.since, n.since);
    now = omega (arith, l.now, n.now);
    inside = rw (n.config, n.at l.was l.now) l.inside;
    slot = rw n.config l.slot;
    range = rw (n.config, n.at l.was l.now) l.range;
    led = rw (n.at l.was l.now) l.led;
    guarded = guarded link l.guarded;
  }

  pub guard : (st : ℕ) → SawGuard st p → SawGuard st q
  guard st g = record {
    guarded = g.guarded;
    begun = omega (arith, g.begun, n.since);
    until = omega (arith, g.until, n.now);
    value = moved (λ c x. x.value ROOT_STATUS_AT ≡ st) g.guarded g.until g.value;
  }

  pub way : (key : List ℕ) (path : Path) (k : ℕ) → IsWay key path k p → IsWay key path k q
  way key path k w = record {
    some = w.some;
    links = λ i l h e. link-stays key l (w.links i l h e);
    first = w.first;
    below = λ i l next h e f. rw n.config (w.below i l next h e f);
    last = w.last;
    thawed = w.thawed;
  }

  abbrev pub arrives : (key : List ℕ) (path : Path) (k : ℕ) → Arrives key path k p → Arrives key path k q
  arrives key path k a = record {
    way = way key path k a.way;
    met = a.met;
    since = omega (arith, a.since, n.since);
    until = omega (arith, a.until, n.now);
    has = moved (λ c x. HasKey key c x k) a.met a.until a.has;
    reached = moved (λ c x. x.reached k ≡ true) a.met a.until a.reached;
    low = moved (λ c x. (page_at c x k).level + path.depth ≤ MAX_LEVELS) a.met a.until a.low;
  }

  abbrev pub at-inner : (key : List ℕ) (path : Path) (k : ℕ) → ArrivesAtInner key path k p → ArrivesAtInner key path k q
  at-inner key path k a = record {
    node = arrives key path k a.node;
    inner = moved (λ c x. 0 < (page_at c x k).level) a.node.met a.node.until a.inner;
  }

  abbrev pub opened : (key : List ℕ) (path : Path) (k st : ℕ) → Opened key path k st p → Opened key path k st q
  opened key path k st o = record {
    at_inner = at-inner key path k o.at_inner;
    guarded = o.guarded;
    order = o.order;
    until = omega (arith, o.until, n.now);
    value = moved (λ c x. words c x k STATUS_AT ≡ st) o.guarded o.until o.value;
    thawed = o.thawed;
    inner = moved (λ c x. IsInner (words c x k)) o.guarded o.until o.inner;
  }

  abbrev pub chosen : (key : List ℕ) (path : Path) (r : Probe) → HasChosen key path r p → HasChosen key path r q
  chosen key path r h = record {
    opened = opened key path r.slot r.status h.opened;
    child = h.child;
    chooses = moved (λ c x. Chooses key (words c x r.slot) h.child) h.opened.guarded h.opened.until h.chooses;
    place = moved (λ c x. r.pointer ≡ pointer_at (page (words c x r.slot)) h.child) h.opened.guarded h.opened.until h.place;
  }

  pub meets-frozen : (key : List ℕ) (path : Path) → MeetsFrozen key path p → MeetsFrozen key path q
  meets-frozen key path f = record {
    slot = f.slot;
    node = at-inner key path f.slot f.node;
    moment = f.moment;
    order = f.order;
    now = omega (arith, f.now, n.now);
    frozen = moved (λ c x. (page_at c x f.slot).frozen ≡ true) f.moment f.now f.frozen;
  }
