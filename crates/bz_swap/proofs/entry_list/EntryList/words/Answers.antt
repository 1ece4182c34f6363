use Rattle.std.proofs.Common.{◌≡◌, ◌<◌, ℕ, ◌+◌, ◌∙◌, ap, sym, arith, length, get_or, take, List}
use Rattle.std.proofs.lemmas.List.{get_or-take, length-take-le}
use Rattle.bz_word.specs.declared.entry.Entry.{Entry}
use Rattle.bz_swap_machine.specs.Machine.{entries_in}
use Rattle.bz_swap.specs.Inside.Parts.{entry_of, listed}
use Rattle.bz_swap.proofs.EntrySteps.{listed-all, same-entry, plain}
use Rattle.bz_swap.proofs.entry_list.EntryList.words.Goals as goal

pub returns-clause-list : goal.returns-clause-list
returns-clause-list c =
    let inv = c.loop-i.invariant in
    let n : ℕ = c.self.inside.count in
    let entries : List Entry = c.self.inside.entries in
    let whole : length entries ≡ 4 = c.self.invariant.0 in
    let long : length (take n entries) ≡ n = length-take-le n entries (omega (arith, whole, c.self.invariant.1)) in
    let words : ℕ → ℕ = λ k. get_or c.loop-i.words k 0 in
    let each : (k : ℕ) (d : Entry) → k < length (take n entries) → entry_of (entries_in words) (0 + k) ≡ get_or (take n entries) k d = λ k d inside.
    (let below : k < n = omega (arith, inside, long) in let i : k < c.loop-i.i = omega (arith, below) in
    let e = get_or-take n entries k d below in
    ap (entry_of (entries_in words)) (plain k) ∙ same-entry _ _ (inv.target k d i) (inv.expected k d i) (inv.value k d i) ∙ sym e) in
    ap (listed (entry_of (entries_in words)) 0) (inv.count ∙ sym long) ∙ listed-all (entry_of (entries_in words)) (take n entries) 0 each ∙ c.self.view_is

pub returns-clause-count : goal.returns-clause-count
returns-clause-count c =
    let n : ℕ = c.self.inside.count in
    let entries : List Entry = c.self.inside.entries in
    let whole : length entries ≡ 4 = c.self.invariant.0 in
    let long : length (take n entries) ≡ n = length-take-le n entries (omega (arith, whole, c.self.invariant.1)) in
    c.loop-i.invariant.count ∙ sym long ∙ ap length c.self.view_is
