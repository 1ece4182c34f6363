-- Later lines one after another.
use Rattle.std.proofs.Common.{◌≡◌, ◌≤◌, ◌<◌, ℕ, ◌+◌, List, [], ◌∷◌, ◌++◌, length, drop, get_or, refl, sym, ap, ◌∙◌, append_assoc, Bor, Result, Ok, Err, arith}
use Rattle.std.proofs.lemmas.List.{drop_more, length-append}
use Rattle.bz_script.specs.Order.{at_first, after_kind}
use Rattle.bz_script.specs.Words.{texts_of, words_in_line}
use Rattle.bz_script.specs.Script.{Fault}
use Rattle.bz_qscript.specs.Script.{item_of, items_of, then_items, kind_of}
use Rattle.bz_script.specs.declared.fault.ScriptRule.{ScriptRule}
use Rattle.bz_qscript.specs.declared.item.QItem.{QItem}
use Rattle.bz_script.specs.declared.order.Standing.{Standing}

-- items, and then those that follow
abbrev pub onto_items : List QItem → Result (List QItem) Fault → Result (List QItem) Fault
onto_items items (Err fault) = Err fault
onto_items items (Ok more) = Ok (items ++ more)

-- the lines before a place were read into these items, and there is room for one from each other line but the last
pub record IsRead (items : List QItem) (capacity : ℕ) (standing : Standing) (place last : ℕ) (lines : List (Bor (List ℕ))) : Type 0 where
  pub so_far : onto_items items (items_of (place + 2) standing (texts_of (drop place lines))) ≡ items_of 2 at_first (texts_of lines)
  pub count : length items ≡ place
  pub room : last ≤ capacity

onto_none : (rest : Result (List QItem) Fault) → onto_items [] rest ≡ rest
onto_none (Err fault) = refl
onto_none (Ok more) = refl

onto_then : (number : ℕ) (items : List QItem) (item : QItem) (rest : Result (List QItem) Fault) → onto_items items (then_items number (Ok item) rest) ≡ onto_items (items ++ item ∷ []) rest
onto_then number items item (Err fault) = refl
onto_then number items item (Ok more) = rw append_assoc refl

-- the lines from a place on, where another follows
two_on : (lines : List (Bor (List ℕ))) (i : ℕ) (d : Bor (List ℕ)) → i + 1 < length lines → drop i lines ≡ get_or lines i d ∷ get_or lines (i + 1) d ∷ drop (i + 1 + 1) lines
two_on lines i d h =
    let here : i < length lines = omega arith in
    drop_more lines i d here ∙ ap (λ rest. get_or lines i d ∷ rest) (drop_more lines (i + 1) d h)

-- a line that gives an item
items_more : (number : ℕ) (standing : Standing) (lines : List (Bor (List ℕ))) (i : ℕ) (d : Bor (List ℕ)) (item : QItem) (items : List QItem) → i + 1 < length lines → item_of standing (words_in_line (get_or lines i d).now) ≡ Ok item
    → onto_items (items ++ item ∷ []) (items_of (number + 1) (after_kind standing (kind_of item)) (texts_of (drop (i + 1) lines))) ≡ onto_items items (items_of number standing (texts_of (drop i lines)))
items_more number standing lines i d item items h read =
    rw (two_on lines i d h, drop_more lines (i + 1) d h, read) (sym (onto_then number items item (items_of (number + 1) (after_kind standing (kind_of item)) (texts_of (get_or lines (i + 1) d ∷ drop (i + 1 + 1) lines)))))

-- a line that breaks a rule
items_fault : (number : ℕ) (standing : Standing) (lines : List (Bor (List ℕ))) (i : ℕ) (d : Bor (List ℕ)) (rule : ScriptRule) → i + 1 < length lines → item_of standing (words_in_line (get_or lines i d).now) ≡ Err rule
    → items_of number standing (texts_of (drop i lines)) ≡ Err (record { line = number; rule = rule })
items_fault number standing lines i d rule h read = rw (two_on lines i d h, read) refl

-- nothing was read
pub read_none : (items : List QItem) (capacity last : ℕ) (lines : List (Bor (List ℕ))) → items ≡ [] → last ≤ capacity → IsRead items capacity at_first 0 last lines
read_none items capacity last lines none room = record {
  so_far = rw none (onto_none (items_of 2 at_first (texts_of lines)));
  count = rw none refl;
  room = room;
}

-- one item more was read
pub read_more : (items longer : List QItem) (capacity after : ℕ) (standing next : Standing) (i last : ℕ) (lines : List (Bor (List ℕ))) (d : Bor (List ℕ)) (item : QItem) → i < last → last + 1 ≡ length lines → item_of standing (words_in_line (get_or lines i d).now) ≡ Ok item
    → next ≡ after_kind standing (kind_of item) → longer ≡ items ++ item ∷ [] → capacity ≤ after → IsRead items capacity standing i last lines → IsRead longer after next (i + 1) last lines
read_more items longer capacity after standing next i last lines d item h counted read follows added grown before =
    let number : i + 1 + 2 ≡ i + 2 + 1 = omega arith in
    record {
      so_far = rw (added, follows, number) (items_more (i + 2) standing lines i d item items (omega arith) read ∙ before.so_far);
      count = ap length added ∙ length-append items (item ∷ []) ∙ (omega (arith, before.count));
      room = omega (arith, before.room);
    }

-- the first fault
pub read_fault : (items : List QItem) (capacity : ℕ) (standing : Standing) (i last : ℕ) (lines : List (Bor (List ℕ))) (d : Bor (List ℕ)) (rule : ScriptRule) → i < last → last + 1 ≡ length lines → item_of standing (words_in_line (get_or lines i d).now) ≡ Err rule
    → IsRead items capacity standing i last lines → items_of 2 at_first (texts_of lines) ≡ Err (record { line = i + 2; rule = rule })
read_fault items capacity standing i last lines d rule h counted read before =
    sym before.so_far ∙ rw (items_fault (i + 2) standing lines i d rule (omega arith) read) refl
