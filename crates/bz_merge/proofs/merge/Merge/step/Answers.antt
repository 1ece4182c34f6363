use Rattle.std.proofs.Common.{◌≡◌, ◌<◌, true, slice_index, slice_set, sym, ap, subst, refl, arith, ◌∙◌, inl, inr}
use Rattle.bz_task.specs.Requests.{Hears, Tells}
use Rattle.bz_layout.specs.Config.{IsConfig}
use Rattle.bz_task.specs.Scene.{Scene, Stage, Waiting, IsScene}
use Rattle.bz_task.specs.declared.todo.Seen.TheVariants.{Start, Swapped, NoSwap as NoneLeft}
use Rattle.bz_merge.specs.Duties.{merging_of, two}
use Rattle.bz_merge.specs.Facts.{merge_asks, merge_end, merge_facts, merge_differs, merge_needs, IsReady}
use Rattle.bz_merge.specs.Counts.{merge_made}
use Rattle.bz_merge.specs.declared.phase.MergePhase.TheVariants.{Fresh, Word, Again, Beside, Parent, Still, Guard}
use Rattle.bz_merge.proofs.Beginning.{heard-in, begins-fresh}
use Rattle.bz_merge.proofs.Counting.{choosing-fewer, choosing-counted, word-none, beside-none, told-none, settled-none, looked-fewer, looked-counted}
use Rattle.bz_merge.proofs.Ending.{ends-done, ends-restart, ends-no-swap, ends-no-slot}
use Rattle.bz_merge.proofs.Looking.{with_nodes, look-may, looked-learns, looked-restarts}
use Rattle.bz_merge.proofs.Reading.{with_read, with_beside, fresh-known, word-known, beside-known, word-within, beside-within}
use Rattle.bz_merge.proofs.Ready.{ready-of}
use Rattle.bz_merge.proofs.Settling.{Laws, with_side, weighable, still-learns}
use Rattle.bz_merge.proofs.Staying.{no-slot}
use Rattle.bz_merge.proofs.Stepping.{fresh-picks, word-picks, beside-picks, told-picks, settled-picks, checked-picks, looks, looked-kept}
use Rattle.bz_merge.proofs.Telling.{told-parent, told-learns, checked-learns}
use Rattle.bz_merge.proofs.merge.Merge.step.Goals as goal

pub told-next-requires : goal.told-next-requires
told-next-requires c =
    let t = c.args.self.now in
    let k = c.requires.known in
    told-parent c.parents_read_were.ensures.read t.config (merging_of t) k.stage c.args.seen k.scene k.config k.good
    (subst (λ z. merge_facts (merging_of t) z k.stage k.scene) c.in-Again.is k.holds) (subst (λ z. Tells (merge_asks t.config (merging_of t) z) k.stage c.args.seen k.scene) c.in-Again.is k.tells)

pub settled-next-requires : goal.settled-next-requires
settled-next-requires c e =
    let t = c.args.self.now in
    let k = c.requires.known in
    weighable (record { leaves = c.leaves_read_were.ensures; ranges = c.ranges_stay.ensures; rises = c.inner_keys_rise.ensures }) t.config (merging_of t) k.stage c.args.seen k.scene k.config k.good
    (subst (λ z. merge_facts (merging_of t) z k.stage k.scene) c.in-Still.is k.holds) (subst (λ z. Tells (merge_asks t.config (merging_of t) z) k.stage c.args.seen k.scene) c.in-Still.is k.tells) e

pub look-requires : goal.look-requires
look-requires c =
    let t = c.args.self.now in
    let k = c.requires.known in
    look-may t.config (merging_of t) c.args.slots.now.nodes k.stage k.scene k.config (c.requires.memory (omega (arith, ap merge_needs c.in-Guard.is)))
    (subst (λ z. merge_facts (merging_of t) z k.stage k.scene) c.in-Guard.is k.holds)

pub returns-in-Fresh : goal.returns-in-Fresh
returns-in-Fresh c =
    let t = c.args.self.now in
    let k = c.requires.known in
    let h = c.requires.hears in
    let r = merging_of t in
    let is = c.in-Fresh.is in
    let g = fresh-picks t.config r t.phase (Word 1) c.args.seen is refl in
    let learnt : (stage : Stage) (s : Scene) → s.past.config ≡ t.config → IsScene s → merge_facts r t.phase stage s → Tells (merge_asks t.config r t.phase) stage c.args.seen s → merge_facts r (Word 1) Waiting s =
    λ stage s same good facts tells. fresh-known t.config r stage c.args.seen s (subst (λ z. merge_facts r z stage s) is facts) (subst (λ z. Tells (merge_asks t.config r z) stage c.args.seen s) is tells) in
    record {
      config = refl;
      upper = refl;
      lower = refl;
      status = refl;
      leaf = refl;
      known = subst IsConfig k.config k.good.config;
      begun = g.begun;
      ready = ready-of c.links_turn.ensures.asked t.config r (Word 1) k.scene k.config k.good (learnt k.stage k.scene k.config k.good k.holds k.tells);
      nearer = g.nearer;
      fewer = choosing-fewer t.config r t.phase Fresh (Word 1) is tt;
      counted = λ e. choosing-counted t.config r r t.phase Fresh (Word 1) c.args.seen is tt refl h;
      slots = inr (record { fewer = g.needs; slots = refl });
      kept = λ outcome q. refl;
      begins = λ e. refl;
      done = λ e. absurd (g.done e);
      last = λ e n. absurd (heard-in t.config r t.phase Fresh c.args.seen (Swapped true) is e h);
      only_last = λ e. absurd (g.done e);
      restart = λ e. inr (g.restart e);
      no_swap = λ e. absurd (heard-in t.config r t.phase Fresh c.args.seen NoneLeft is e h);
      full_swaps = λ e. absurd (g.full_swaps e);
      full_nodes = λ e. absurd (g.full_nodes e);
      learns = λ stage s same good free facts tells. no-slot c.nothing_is_gained.ensures r s c.args.slots.now (Word 1) (learnt stage s same good facts tells);
    }

pub returns-in-Word : goal.returns-in-Word
returns-in-Word c =
    let t = c.args.self.now in
    let k = c.requires.known in
    let h = c.requires.hears in
    let r = merging_of t in
    let is = c.in-Word.is in
    let i = c.in-Word.i in
    let next = c.next_place in
    let n = c.after_word-self.result in
    let then_is = c.after_word-self.ensures in
    let after = with_read r (slice_set t.read.0 i c.word_in.result) in
    let within = word-within r i k.stage k.scene (subst (λ z. merge_facts r z k.stage k.scene) is k.holds) in
    let g = word-picks t.config r t.phase n c.args.seen i next.result is then_is within next.ensures.after in
    let learnt : (stage : Stage) (s : Scene) → s.past.config ≡ t.config → IsScene s → merge_facts r t.phase stage s → Tells (merge_asks t.config r t.phase) stage c.args.seen s → merge_facts after n Waiting s =
    λ stage s same good facts tells. subst (λ z. merge_facts after z Waiting s) (sym then_is)
    (word-known t.config r i next.result c.word_in.result stage c.args.seen s same good next.ensures.after next.ensures.within next.ensures.skipped c.word_in.ensures
    (subst (λ z. merge_facts r z stage s) is facts) (subst (λ z. Tells (merge_asks t.config r z) stage c.args.seen s) is tells)) in
    record {
      config = refl;
      upper = refl;
      lower = refl;
      status = refl;
      leaf = refl;
      known = subst IsConfig k.config k.good.config;
      begun = g.begun;
      ready = ready-of c.links_turn.ensures.asked t.config after n k.scene k.config k.good (learnt k.stage k.scene k.config k.good k.holds k.tells);
      nearer = g.nearer;
      fewer = choosing-fewer t.config r t.phase (Word i) n is tt;
      counted = λ e. choosing-counted t.config r after t.phase (Word i) n c.args.seen is tt (ap (merge_made after) then_is ∙ word-none after next.result) h;
      slots = inr (record { fewer = g.needs; slots = refl });
      kept = λ outcome q. refl;
      begins = λ e. absurd (heard-in t.config r t.phase (Word i) c.args.seen Start is e h);
      done = λ e. absurd (g.done e);
      last = λ e n. absurd (heard-in t.config r t.phase (Word i) c.args.seen (Swapped true) is e h);
      only_last = λ e. absurd (g.done e);
      restart = λ e. inr (g.restart e);
      no_swap = λ e. absurd (heard-in t.config r t.phase (Word i) c.args.seen NoneLeft is e h);
      full_swaps = λ e. absurd (g.full_swaps e);
      full_nodes = λ e. absurd (g.full_nodes e);
      learns = λ stage s same good free facts tells. no-slot c.nothing_is_gained.ensures after s c.args.slots.now n (learnt stage s same good facts tells);
    }

pub returns-in-Again : goal.returns-in-Again
returns-in-Again c =
    let t = c.args.self.now in
    let k = c.requires.known in
    let h = c.requires.hears in
    let r = merging_of t in
    let is = c.in-Again.is in
    let n = c.told-next.result in
    let g = told-picks t.config r t.phase n.phase c.args.seen n.side is (heard-in t.config r t.phase Again c.args.seen c.args.seen is refl h) c.told-next.ensures in
    let learnt : (stage : Stage) (s : Scene) → s.past.config ≡ t.config → IsScene s → merge_facts r t.phase stage s → Tells (merge_asks t.config r t.phase) stage c.args.seen s → merge_facts (with_side r n.side) n.phase Waiting s =
    λ stage s same good facts tells. told-learns c.parents_read_were.ensures.read t.config r stage c.args.seen s same good
    (subst (λ z. merge_facts r z stage s) is facts) (subst (λ z. Tells (merge_asks t.config r z) stage c.args.seen s) is tells) n.side n.phase c.told-next.ensures in
    record {
      config = refl;
      upper = refl;
      lower = refl;
      status = refl;
      leaf = refl;
      known = subst IsConfig k.config k.good.config;
      begun = g.begun;
      ready = ready-of c.links_turn.ensures.asked t.config (with_side r n.side) n.phase k.scene k.config k.good (learnt k.stage k.scene k.config k.good k.holds k.tells);
      nearer = g.nearer;
      fewer = choosing-fewer t.config r t.phase Again n.phase is tt;
      counted = λ e. choosing-counted t.config r (with_side r n.side) t.phase Again n.phase c.args.seen is tt (told-none r (with_side r n.side) c.args.seen n.side n.phase c.told-next.ensures) h;
      slots = inr (record { fewer = g.needs; slots = refl });
      kept = λ outcome q. refl;
      begins = λ e. absurd (heard-in t.config r t.phase Again c.args.seen Start is e h);
      done = λ e. absurd (g.done e);
      last = λ e n. absurd (heard-in t.config r t.phase Again c.args.seen (Swapped true) is e h);
      only_last = λ e. absurd (g.done e);
      restart = λ e. inr (g.restart e);
      no_swap = λ e. absurd (heard-in t.config r t.phase Again c.args.seen NoneLeft is e h);
      full_swaps = λ e. absurd (g.full_swaps e);
      full_nodes = λ e. absurd (g.full_nodes e);
      learns = λ stage s same good free facts tells. no-slot c.nothing_is_gained.ensures (with_side r n.side) s c.args.slots.now n.phase (learnt stage s same good facts tells);
    }

pub returns-in-Beside : goal.returns-in-Beside
returns-in-Beside c =
    let t = c.args.self.now in
    let k = c.requires.known in
    let h = c.requires.hears in
    let r = merging_of t in
    let is = c.in-Beside.is in
    let i = c.in-Beside.i in
    let v = c.word_in-in-Beside.result in
    let w = c.with_word-self in
    let next = c.next_place-in-Beside in
    let n = c.after_beside-self.result in
    let then_is = c.after_beside-self.ensures in
    let after = with_beside r w.result.0 in
    let within = beside-within r i k.stage k.scene (subst (λ z. merge_facts r z k.stage k.scene) is k.holds) in
    let g = beside-picks t.config r t.phase n c.args.seen i next.result is then_is within next.ensures.after in
    let learnt : (stage : Stage) (s : Scene) → s.past.config ≡ t.config → IsScene s → merge_facts r t.phase stage s → Tells (merge_asks t.config r t.phase) stage c.args.seen s → merge_facts after n Waiting s =
    λ stage s same good facts tells. subst (λ z. merge_facts after z Waiting s) (sym then_is)
    (beside-known c.fronts_stay.ensures t.config r i next.result v w.result.0 stage c.args.seen s same good
    (record { size = w.ensures.size; first = w.ensures.first; blank = w.ensures.blank; later = w.ensures.later }) next.ensures.after next.ensures.within next.ensures.skipped c.word_in-in-Beside.ensures
    (subst (λ z. merge_facts r z stage s) is facts) (subst (λ z. Tells (merge_asks t.config r z) stage c.args.seen s) is tells)) in
    record {
      config = refl;
      upper = refl;
      lower = refl;
      status = refl;
      leaf = refl;
      known = subst IsConfig k.config k.good.config;
      begun = g.begun;
      ready = ready-of c.links_turn.ensures.asked t.config after n k.scene k.config k.good (learnt k.stage k.scene k.config k.good k.holds k.tells);
      nearer = g.nearer;
      fewer = choosing-fewer t.config r t.phase (Beside i) n is tt;
      counted = λ e. choosing-counted t.config r after t.phase (Beside i) n c.args.seen is tt (ap (merge_made after) then_is ∙ beside-none after next.result) h;
      slots = inr (record { fewer = g.needs; slots = refl });
      kept = λ outcome q. refl;
      begins = λ e. absurd (heard-in t.config r t.phase (Beside i) c.args.seen Start is e h);
      done = λ e. absurd (g.done e);
      last = λ e n. absurd (heard-in t.config r t.phase (Beside i) c.args.seen (Swapped true) is e h);
      only_last = λ e. absurd (g.done e);
      restart = λ e. inr (g.restart e);
      no_swap = λ e. absurd (heard-in t.config r t.phase (Beside i) c.args.seen NoneLeft is e h);
      full_swaps = λ e. absurd (g.full_swaps e);
      full_nodes = λ e. absurd (g.full_nodes e);
      learns = λ stage s same good free facts tells. no-slot c.nothing_is_gained.ensures after s c.args.slots.now n (learnt stage s same good facts tells);
    }

pub returns-in-Parent : goal.returns-in-Parent
returns-in-Parent c =
    let t = c.args.self.now in
    let k = c.requires.known in
    let h = c.requires.hears in
    let r = merging_of t in
    let is = c.in-Parent.is in
    let n = c.checked-self.result in
    let g = checked-picks t.config r t.phase n c.args.seen is (heard-in t.config r t.phase Parent c.args.seen c.args.seen is refl h) c.checked-self.ensures in
    let learnt : (stage : Stage) (s : Scene) → s.past.config ≡ t.config → IsScene s → merge_facts r t.phase stage s → Tells (merge_asks t.config r t.phase) stage c.args.seen s → merge_facts r n Waiting s =
    λ stage s same good facts tells. checked-learns c.parents_read_were.ensures.stand t.config r n stage c.args.seen s same good c.checked-self.ensures
    (subst (λ z. merge_facts r z stage s) is facts) (subst (λ z. Tells (merge_asks t.config r z) stage c.args.seen s) is tells) in
    record {
      config = refl;
      upper = refl;
      lower = refl;
      status = refl;
      leaf = refl;
      known = subst IsConfig k.config k.good.config;
      begun = g.begun;
      ready = ready-of c.links_turn.ensures.asked t.config r n k.scene k.config k.good (learnt k.stage k.scene k.config k.good k.holds k.tells);
      nearer = g.nearer;
      fewer = choosing-fewer t.config r t.phase Parent n is tt;
      counted = λ e. choosing-counted t.config r r t.phase Parent n c.args.seen is tt (elim c.checked-self.ensures [ inl w ↦ ap (merge_made r) w.1 | inr w ↦ ap (merge_made r) w.1 ]) h;
      slots = inr (record { fewer = g.needs; slots = refl });
      kept = λ outcome q. refl;
      begins = λ e. absurd (heard-in t.config r t.phase Parent c.args.seen Start is e h);
      done = λ e. absurd (g.done e);
      last = λ e n. absurd (heard-in t.config r t.phase Parent c.args.seen (Swapped true) is e h);
      only_last = λ e. absurd (g.done e);
      restart = λ e. inr (g.restart e);
      no_swap = λ e. absurd (heard-in t.config r t.phase Parent c.args.seen NoneLeft is e h);
      full_swaps = λ e. absurd (g.full_swaps e);
      full_nodes = λ e. absurd (g.full_nodes e);
      learns = λ stage s same good free facts tells. no-slot c.nothing_is_gained.ensures r s c.args.slots.now n (learnt stage s same good facts tells);
    }

pub returns-in-Still : goal.returns-in-Still
returns-in-Still c =
    let t = c.args.self.now in
    let k = c.requires.known in
    let h = c.requires.hears in
    let r = merging_of t in
    let is = c.in-Still.is in
    let n = c.settled-next.result in
    let e = c.settled-next.ensures in
    let laws : Laws = record { leaves = c.leaves_read_were.ensures; ranges = c.ranges_stay.ensures; rises = c.inner_keys_rise.ensures } in
    let g = settled-picks t.config r t.phase n.phase c.args.seen n.side is (heard-in t.config r t.phase Still c.args.seen c.args.seen is refl h) e.settled in
    let learnt : (stage : Stage) (s : Scene) → s.past.config ≡ t.config → IsScene s → merge_facts r t.phase stage s → Tells (merge_asks t.config r t.phase) stage c.args.seen s → merge_facts (with_side r n.side) n.phase Waiting s =
    λ stage s same good facts tells. still-learns laws t.config r n.phase n.side t.side stage c.args.seen s same good e.settled e.side refl
    (subst (λ z. merge_facts r z stage s) is facts) (subst (λ z. Tells (merge_asks t.config r z) stage c.args.seen s) is tells) in
    record {
      config = refl;
      upper = refl;
      lower = refl;
      status = refl;
      leaf = refl;
      known = subst IsConfig k.config k.good.config;
      begun = g.begun;
      ready = ready-of c.links_turn.ensures.asked t.config (with_side r n.side) n.phase k.scene k.config k.good (learnt k.stage k.scene k.config k.good k.holds k.tells);
      nearer = g.nearer;
      fewer = choosing-fewer t.config r t.phase Still n.phase is tt;
      counted = λ e. choosing-counted t.config r (with_side r n.side) t.phase Still n.phase c.args.seen is tt (settled-none r c.args.seen n.side n.phase c.settled-next.ensures.settled) h;
      slots = inr (record { fewer = g.needs; slots = refl });
      kept = λ outcome q. refl;
      begins = λ e. absurd (heard-in t.config r t.phase Still c.args.seen Start is e h);
      done = λ e. absurd (g.done e);
      last = λ e n. absurd (heard-in t.config r t.phase Still c.args.seen (Swapped true) is e h);
      only_last = λ e. absurd (g.done e);
      restart = λ e. inr (g.restart e);
      no_swap = λ e. absurd (heard-in t.config r t.phase Still c.args.seen NoneLeft is e h);
      full_swaps = λ e. absurd (g.full_swaps e);
      full_nodes = λ e. absurd (g.full_nodes e);
      learns = λ stage s same good free facts tells. no-slot c.nothing_is_gained.ensures (with_side r n.side) s c.args.slots.now n.phase (learnt stage s same good facts tells);
    }

pub returns-in-Guard : goal.returns-in-Guard
returns-in-Guard c =
    let t = c.args.self.now in
    let k = c.requires.known in
    let h = c.requires.hears in
    let r = merging_of t in
    let is = c.in-Guard.is in
    let n = c.look.new.self in
    let e = c.look.ensures in
    let old = c.args.slots.now in
    let new = c.look.new.slots in
    let some : 0 < merge_needs t.phase = omega (arith, ap merge_needs is) in
    let nodes = c.requires.memory some in
    let g = looks t.config (merging_of n) t.side.right t.phase n.phase c.args.seen old new is nodes e.looked in
    let same : merging_of n ≡ with_nodes r (slice_index n.slots) (two n.parent.0 n.merged.0) = (λ t. record {
      upper = e.upper t;
      lower = e.lower t;
      status = e.status t;
      leaf = (e.leaf t).0;
      read = (e.read t).0;
      right = (e.side t).right;
      place = (e.side t).place;
      beside_slot = (e.side t).slot;
      beside = (e.beside t).0;
      slot = slice_index n.slots;
      image = two n.parent.0 n.merged.0;
    }) in
    record {
      config = e.config;
      upper = e.upper;
      lower = e.lower;
      status = e.status;
      leaf = e.leaf;
      known = subst IsConfig (k.config ∙ sym e.config) k.good.config;
      begun = g.begun;
      ready = subst (λ z. IsReady z (merging_of n) n.phase) (sym e.config) g.ready;
      nearer = g.nearer;
      fewer = looked-fewer t.config r (merging_of n) t.phase n.phase c.args.seen old new is e.looked;
      counted = looked-counted t.config r (merging_of n) t.phase n.phase c.args.seen old new is e.looked e.status (ap (λ z. z.0) e.beside) h;
      slots = g.slots;
      kept = λ outcome q. looked-kept (merging_of n) c.args.seen n.phase old new outcome e.looked q;
      begins = λ q. absurd (heard-in t.config r t.phase Guard c.args.seen Start is q h);
      done = λ q. absurd (g.done q);
      last = λ q m. absurd (heard-in t.config r t.phase Guard c.args.seen (Swapped true) is q h);
      only_last = λ q. absurd (g.done q);
      restart = λ q. inr (subst (λ z. merge_differs r z c.args.seen) (sym is) (looked-restarts t.config r (merging_of n) n.phase c.args.seen old new e.upper (heard-in t.config r t.phase Guard c.args.seen c.args.seen is refl h) e.looked q));
      no_swap = λ q. absurd (heard-in t.config r t.phase Guard c.args.seen NoneLeft is q h);
      full_swaps = λ q. absurd (g.full_swaps q);
      full_nodes = g.full_nodes;
      learns = λ stage s config good free facts tells.
          looked-learns c.slots_apart.ensures c.children_join.ensures c.guarded_links_stand.ensures c.nothing_is_gained.ensures t.config r (merging_of n) n.phase c.args.seen old new same e.looked nodes stage s config good (free some)
          (subst (λ z. merge_facts r z stage s) is facts) (subst (λ z. Tells (merge_asks t.config r z) stage c.args.seen s) is tells);
    }

pub returns-in_default : goal.returns-in_default
returns-in_default c =
    let t = c.args.self.now in
    let a = c.after-self.ensures in
    record {
      config = refl;
      upper = refl;
      lower = refl;
      status = refl;
      leaf = refl;
      known = a.config;
      begun = a.begun;
      ready = a.ready;
      nearer = a.nearer;
      fewer = a.fewer;
      counted = a.counted;
      slots = inr (record { fewer = a.needs; slots = refl });
      kept = λ outcome q. refl;
      begins = (λ q. absurd (c.in_default.not-Fresh (begins-fresh t.config (merging_of t) t.phase (subst (Hears (merge_asks t.config (merging_of t) t.phase)) q c.requires.hears))));
      done = (λ q. a.done (ends-done c.after-self.result q));
      last = (λ q n. ap merge_end (a.last q n));
      only_last = (λ q. a.only_last (ends-done c.after-self.result q));
      restart = (λ q. inl (a.restart (ends-restart c.after-self.result q)));
      no_swap = (λ q. ap merge_end (a.no_swap.1 q));
      full_swaps = (λ q. a.no_swap.0 (ends-no-swap c.after-self.result q));
      full_nodes = (λ q. absurd (a.slots (ends-no-slot c.after-self.result q)));
      learns = (λ stage s same good free facts tells. no-slot c.nothing_is_gained.ensures (merging_of t) s c.args.slots.now c.after-self.result (a.learns stage s same good facts tells));
    }
