use Rattle.std.proofs.Common.{true, ap, subst}
use Rattle.bz_layout.specs.Config.{IsConfig}
use Rattle.bz_task.specs.Requests.{Hears}
use Rattle.bz_task.specs.declared.todo.Seen.TheVariants.{Swapped, NoSwap as NoneLeft}
use Rattle.bz_merge.specs.Counts.{merge_swaps}
use Rattle.bz_merge.specs.Duties.{merging_of}
use Rattle.bz_merge.specs.Facts.{merge_asks, merge_facts}
use Rattle.bz_merge.specs.declared.phase.MergePhase.TheVariants.{Store, Flush}
use Rattle.bz_merge.proofs.Beginning.{heard-in}
use Rattle.bz_merge.proofs.Counting.{is-thawed, stored-fewer, stored-counted, flushed-fewer, flushed-counted}
use Rattle.bz_merge.proofs.GoingOn.{stores-on, flushes-on, store-within, flush-within}
use Rattle.bz_merge.proofs.Ready.{ready-of}
use Rattle.bz_merge.proofs.Swapping.{swapping-of, store-seen, flush-seen, swap-plain, comes, comes-fewer, learns-swapped}
use Rattle.bz_merge.proofs.Writing.{store-learns, flush-learns}
use Rattle.bz_merge.proofs.merge.Merge.after.Goals as goal

pub after_swap-requires : goal.after_swap-requires
after_swap-requires c =
    let t = c.args.self.now in
    let k = c.requires.known in record {
      swapping = swapping-of t.phase c.requires.begun c.in_default.not-Store c.in_default.not-Flush;
      hears = c.requires.hears;
      plain = swap-plain (merging_of t) t.phase k.stage k.scene k.holds;
    }

pub returns-in-Store : goal.returns-in-Store
returns-in-Store c =
    let t = c.args.self.now in
    let k = c.requires.known in
    let r = merging_of t in
    let q = c.after_store.result in
    let is = c.in-Store.is in
    let then_is = c.after_store.ensures in
    let h = c.requires.hears in
    let told = store-seen t.config r c.in-Store.j c.args.seen (subst (λ z. Hears (merge_asks t.config r z) c.args.seen) is h) in
    let less = store-within r c.in-Store.j k.stage k.scene (subst (λ z. merge_facts r z k.stage k.scene) is k.holds) in
    let g = stores-on t.side.right t.phase q c.in-Store.j is then_is less in
    record {
      nearer = g.nearer;
      fewer = stored-fewer t.config r t.phase q c.in-Store.j is then_is;
      counted = λ e. stored-counted t.config r t.phase q c.in-Store.j c.args.seen is then_is h;
      needs = g.needs;
      done = λ e. absurd (g.done e);
      last = λ e n. absurd (heard-in t.config r t.phase (Store c.in-Store.j) c.args.seen (Swapped true) is e h);
      only_last = λ e. ap merge_swaps is;
      restart = λ e. absurd (g.restart e);
      no_swap = (λ e. absurd (g.no_swap e), λ e. absurd (heard-in t.config r t.phase (Store c.in-Store.j) c.args.seen NoneLeft is e h));
      slots = g.slots;
      begun = g.begun;
      config = subst IsConfig k.config k.good.config;
      ready = ready-of c.links_turn.ensures.asked t.config r q k.scene k.config k.good (store-learns t.config r t.phase q c.args.seen k.stage k.scene k.holds k.tells c.in-Store.j is told then_is);
      learns = λ stage s same good f tells. store-learns t.config r t.phase q c.args.seen stage s f tells c.in-Store.j is told then_is;
    }

pub returns-in-Flush : goal.returns-in-Flush
returns-in-Flush c =
    let t = c.args.self.now in
    let k = c.requires.known in
    let r = merging_of t in
    let q = c.after_flush.result in
    let is = c.in-Flush.is in
    let then_is = c.after_flush.ensures in
    let h = c.requires.hears in
    let told = flush-seen t.config r c.in-Flush.j c.args.seen (subst (λ z. Hears (merge_asks t.config r z) c.args.seen) is h) in
    let less = flush-within r c.in-Flush.j k.stage k.scene (subst (λ z. merge_facts r z k.stage k.scene) is k.holds) in
    let g = flushes-on t.side.right t.phase q c.in-Flush.j is then_is less in
    record {
      nearer = g.nearer;
      fewer = flushed-fewer t.config r t.phase q c.in-Flush.j is then_is;
      counted = λ e. flushed-counted t.config r t.phase q c.in-Flush.j c.args.seen is then_is h;
      needs = g.needs;
      done = λ e. absurd (g.done e);
      last = λ e n. absurd (heard-in t.config r t.phase (Flush c.in-Flush.j) c.args.seen (Swapped true) is e h);
      only_last = λ e. ap merge_swaps is;
      restart = λ e. absurd (g.restart e);
      no_swap = (λ e. absurd (g.no_swap e), λ e. absurd (heard-in t.config r t.phase (Flush c.in-Flush.j) c.args.seen NoneLeft is e h));
      slots = g.slots;
      begun = g.begun;
      config = subst IsConfig k.config k.good.config;
      ready = ready-of c.links_turn.ensures.asked t.config r q k.scene k.config k.good (flush-learns t.config r t.phase q c.args.seen k.stage k.scene k.holds k.tells c.in-Flush.j is told then_is);
      learns = λ stage s same good f tells. flush-learns t.config r t.phase q c.args.seen stage s f tells c.in-Flush.j is told then_is;
    }

pub returns-in_default : goal.returns-in_default
returns-in_default c =
    let t = c.args.self.now in
    let k = c.requires.known in
    let w = swapping-of t.phase c.requires.begun c.in_default.not-Store c.in_default.not-Flush in
    let h = comes (merging_of t) t.phase c.args.seen c.after_swap.result w (is-thawed (merging_of t) t.phase k.stage k.scene k.holds) c.after_swap.ensures in
    record {
      nearer = h.nearer;
      fewer = comes-fewer t.config (merging_of t) t.phase c.args.seen c.after_swap.result w h;
      counted = h.counted;
      needs = h.needs;
      done = h.done;
      last = h.last;
      only_last = h.only_last;
      restart = h.restart;
      no_swap = h.no_swap;
      slots = h.slots;
      begun = h.begun;
      config = subst IsConfig k.config k.good.config;
      ready = ready-of c.links_turn.ensures.asked t.config (merging_of t) c.after_swap.result k.scene k.config k.good (learns-swapped t.config (merging_of t) t.phase c.after_swap.result c.args.seen k.stage k.scene k.good w c.after_swap.ensures k.holds k.tells);
      learns = λ stage s same good f told. learns-swapped t.config (merging_of t) t.phase c.after_swap.result c.args.seen stage s good w c.after_swap.ensures f told;
    }
