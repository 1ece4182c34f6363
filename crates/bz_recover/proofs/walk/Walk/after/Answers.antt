use Rattle.std.proofs.Common.{◌≡◌, length, refl, sym, ap, ◌∙◌, subst}
use Rattle.std.proofs.lemmas.List.FromFn.{length-range_with_len}
use Rattle.bz_content.specs.Content.{view_in}
use Rattle.bz_layout.specs.Slots.{FreeSlots, all_free}
use Rattle.bz_recover.specs.Walking.{IsBefore}
use Rattle.bz_recover.specs.declared.walk.Step.TheVariants.{Fresh, Root, Header, Status, Meta, Pointer}
use Rattle.bz_recover.proofs.Beginning.{before-root}
use Rattle.bz_recover.proofs.Learning.{known-at, learns}
use Rattle.bz_recover.proofs.walk.Walk.after.Goals as goal

pub returns-in-Fresh-default-clause-learns : goal.returns-in-Fresh-default-clause-learns
returns-in-Fresh-default-clause-learns c values walks told image t =
    let known = known-at c.args.self.now c.args.slots.now Fresh values image c.in-Fresh-default.is-0 walks t in
    let free : c.free_all.new.self.free ≡ (all_free c.args.self.now.config.nodes).free = ap (λ (s : FreeSlots). s.free) c.free_all.ensures ∙ ap (λ n. (all_free n).free) c.requires.slots in
    (subst (IsBefore (view_in c.args.self.now.config image)) (sym free) (before-root c.args.self.now.config values image t), known.1 ∙ (sym (length-range_with_len 0 c.args.self.now.config.nodes) ∙ ap length (sym free)))

pub returns-in-Root-Read-clause-learns : goal.returns-in-Root-Read-clause-learns
returns-in-Root-Read-clause-learns c values walks told =
    learns c.args.self.now c.args.self.now c.args.slots.now c.args.slots.now Root c.found_root.result c.args.seen c.in-Root-Read.pointer values refl c.in-Root-Read.is-0 c.in-Root-Read.is-1 (λ e. e) c.found_root.ensures.begun (c.found_root.ensures.leads c.args.slots.now.free) walks told

pub returns-in-Header-Read-clause-learns : goal.returns-in-Header-Read-clause-learns
returns-in-Header-Read-clause-learns c values walks told =
    learns c.args.self.now c.begun.new.self c.args.slots.now c.begun.new.slots (Header c.in-Header-Read.root) c.begun.result c.args.seen c.in-Header-Read.header values c.begun.ensures.config c.in-Header-Read.is-0 c.in-Header-Read.is-1 (λ e. e) c.begun.ensures.begun (c.begun.ensures.leads) walks told

pub returns-in-Status-Read-clause-learns : goal.returns-in-Status-Read-clause-learns
returns-in-Status-Read-clause-learns c values walks told =
    learns c.args.self.now c.args.self.now c.args.slots.now c.args.slots.now (Status c.in-Status-Read.level c.in-Status-Read.slot) c.entered.result c.args.seen c.in-Status-Read.status values refl c.in-Status-Read.is-0 c.in-Status-Read.is-1 (λ e. e) c.entered.ensures.begun (c.entered.ensures.leads c.args.slots.now.free) walks told

pub returns-in-Meta-Read-clause-learns : goal.returns-in-Meta-Read-clause-learns
returns-in-Meta-Read-clause-learns c values walks told =
    learns c.args.self.now c.args.self.now c.args.slots.now c.args.slots.now (Meta c.in-Meta-Read.level c.in-Meta-Read.way) c.linked.result c.args.seen c.in-Meta-Read.meta values refl c.in-Meta-Read.is-0 c.in-Meta-Read.is-1 (λ e. e) c.linked.ensures.begun (c.linked.ensures.leads c.args.self.now c.args.slots.now.free) walks told

pub returns-in-Pointer-Read-clause-learns : goal.returns-in-Pointer-Read-clause-learns
returns-in-Pointer-Read-clause-learns c values walks told =
    learns c.args.self.now c.reached.new.self c.args.slots.now c.reached.new.slots (Pointer c.in-Pointer-Read.level c.in-Pointer-Read.way c.in-Pointer-Read.place) c.reached.result c.args.seen c.in-Pointer-Read.pointer values c.reached.ensures.config c.in-Pointer-Read.is-0 c.in-Pointer-Read.is-1 (λ e. e) c.reached.ensures.begun (c.reached.ensures.leads c.in-Pointer-Read.place) walks told
