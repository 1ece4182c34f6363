-- What a split on the way up knows beside its own stays, and what it tells of the node above.
use Rattle.std.proofs.Common.{◌≡◌, ℕ, ◌-◌, List, arith, sym, ap, subst, ◌∙◌, Some}
use Rattle.std.specs.Prelude.{slice_get}
use Rattle.bz_call.specs.declared.replies.Spent.TheVariants.{Height}
use Rattle.bz_ascent.specs.Ascents.{IsAscent, IsAtLeaf, IsOneUp}
use Rattle.bz_ascent.specs.declared.ascent.Ascent.{Ascent}
use Rattle.bz_ascent.proofs.Proved.{ascents_stay}
use Rattle.bz_layout.specs.Slots.{FreeSlots}
use Rattle.bz_task.specs.Contract.{MayHear, GoesOn, Learns, IsSound, ActsWell}
use Rattle.bz_task.specs.Scene.{Past, Scene, Continues}
use Rattle.bz_task.specs.TaskView.{TaskView}
use Rattle.bz_task.specs.declared.path.Path.{Path}
use Rattle.bz_task.specs.declared.todo.Outcome.{Outcome}
use Rattle.bz_task.specs.declared.todo.Outcome.TheVariants.{Full, NeedsRoom}
use Rattle.bz_task.specs.declared.todo.Seen.{Seen}
use Rattle.bz_task.specs.declared.todo.Todo.{Todo}
use Rattle.bz_any_task.specs.Ascending.{LooksUp, on_ascent}

pub same-ascent : (x y : Ascent) → Some x ≡ Some y → x ≡ y
same-ascent x y e = cc

-- it stays
keeps : (a : Ascent) (v : TaskView) (p q : Past) → Continues p q → IsAscent a p × LooksUp a v.means → IsAscent a q × LooksUp a v.means
keeps a v p q n f = (ascents_stay a p q f.0 n, f.1)

-- also of what the task has become, whose ends mean no more
pub meant-so : (a : Ascent) (means next : Outcome → Scene → Type 0) (p : Past) → ((o : Outcome) (s : Scene) → next o s → means o s) → IsAscent a p × LooksUp a means → IsAscent a p × LooksUp a next
meant-so a means next p meant f = (f.0, record { lacks = λ up s one m. f.1.lacks up s one (meant NeedsRoom s m); high = λ s m. f.1.high s (meant (Full Height) s m) })

-- so a split on the way up keeps the contract that it keeps by itself
pub hears-on-ascent : (a : Ascent) (v : TaskView) {seen : Seen} {moment : ℕ} {free : FreeSlots} → MayHear (on_ascent a v) seen moment free → MayHear v seen moment free
hears-on-ascent a v h = record {
  hears = h.hears;
  known = record { stage = h.known.stage; scene = h.known.scene; config = h.known.config; now = h.known.now; good = h.known.good; holds = h.known.holds.0; tells = h.known.tells };
  memory = h.memory;
}

pub goes-on-ascent : (a : Ascent) (v w : TaskView) {seen : Seen} {free left : FreeSlots} {todo : Todo} → GoesOn v w seen free left todo → GoesOn (on_ascent a v) (on_ascent a w) seen free left todo
goes-on-ascent a v w g = record {
  asked = g.asked;
  nearer = g.nearer;
  fewer = g.fewer;
  counted = g.counted;
  config = g.config;
  change = g.change;
  basis = g.basis;
  meant = g.meant;
  slots = g.slots;
  kept = g.kept;
  begins = g.begins;
  last = g.last;
  only_last = g.only_last;
  done = g.done;
  published = g.published;
  restart = g.restart;
  no_swap = g.no_swap;
  full_swaps = g.full_swaps;
  full_nodes = g.full_nodes;
}

pub learns-on-ascent : (a : Ascent) (v w : TaskView) (seen : Seen) (moment : ℕ) (free left : FreeSlots) → ((o : Outcome) (s : Scene) → w.means o s → v.means o s) → Learns v w seen moment free left → Learns (on_ascent a v) (on_ascent a w) seen moment free left
learns-on-ascent a v w seen moment free left meant l stage s now same good none f tells = (l stage s now same good none f.0 tells, meant-so a v.means w.means s.past meant f.1)

pub sound-on-ascent : (a : Ascent) (v : TaskView) → IsSound v → IsSound (on_ascent a v)
sound-on-ascent a v k = record {
  stable = λ stage s after same f good l. (k.stable stage s after same f.0 good l, keeps a v s.past after.past l.continues f.1);
  askable = λ s todo same f good e. k.askable s todo same f.0 good e;
  cause = λ s seen same f d. k.cause s seen same f.0 d;
  few = k.few;
  once = λ s f p. k.once s f.0 p;
  ends = λ s outcome f e. k.ends s outcome f.0 e;
}

pub acts-on-ascent : (a : Ascent) (v : TaskView) → ActsWell v → ActsWell (on_ascent a v)
acts-on-ascent a v k = record {
  effect = λ s y entries same f good e stand swaps. k.effect s y entries same f.0 good e stand swaps;
  took = λ s after entries same f good later e stand t. (k.took s after entries same f.0 good later e stand t, keeps a v s.past after.past t.continues f.1);
  stored = λ s after at x same f good later e t. (k.stored s after at x same f.0 good later e t, keeps a v s.past after.past t.continues f.1);
  flushed = λ s after line same f good later e t. (k.flushed s after line same f.0 good later e t, keeps a v s.past after.past t.continues f.1);
}

-- from the leaf on, the last two links of the path are the ones that the ascent names
module _ (a next : Ascent) (key : List ℕ) (path : Path) (at : IsAtLeaf a key path) (one : IsOneUp a next) where
  pub lower-link : slice_get path.links (path.depth - 1) ≡ Some a.node
  lower-link = let e : a.place ≡ path.depth - 1 = omega (arith, at.last) in subst (λ z. slice_get path.links z ≡ Some a.node) e at.node

  pub upper-link : slice_get path.links (path.depth - 2) ≡ Some next.node
  upper-link =
      let e : next.place ≡ path.depth - 2 = omega (arith, at.last, one.before) in
      subst (λ z. slice_get path.links z ≡ Some next.node) e (ap (λ (z : Path). slice_get z.links next.place) (sym at.path_is) ∙ one.node)
