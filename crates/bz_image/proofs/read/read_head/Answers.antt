use Rattle.std.proofs.Common.{sym, ◌∙◌, arith}
use Rattle.bz_image.specs.declared.fault.ImageFault.TheVariants.{Short, Magic}
use Rattle.bz_image.specs.Form.{AreSizes}
use Rattle.bz_image.proofs.FaultLemmas.{head_found, no_magic, version_is, sizes_refused, sizes_are_read}
use Rattle.bz_image.proofs.HeadLemmas.{read_there}
use Rattle.bz_image.proofs.read.read_head.Goals.{then-nodes-lt-MIN_NODES-via-then-nodes-lt-MIN_NODES, then-nodes-lt-MIN_NODES-via-else-nodes-lt-MIN_NODES+then-nodes-gt-MAX_NODES, then-nodes-lt-MIN_NODES-via-else-nodes-lt-MIN_NODES+else-nodes-gt-MAX_NODES+then-swaps-lt-MIN_SWAPS, then-nodes-lt-MIN_NODES-via-else-nodes-lt-MIN_NODES+else-nodes-gt-MAX_NODES+else-swaps-lt-MIN_SWAPS+then-swaps-gt-MAX_SWAPS}
use Rattle.bz_image.proofs.read.read_head.Goals as goal

pub returns-then-bytes-lt-HEAD_BYTES : goal.returns-then-bytes-lt-HEAD_BYTES
returns-then-bytes-lt-HEAD_BYTES c = record {
  head = sym (head_found c.args.bytes.now Short (λ enough. absurd (omega (arith, enough, c.if-bytes-lt-HEAD_BYTES.true))));
  sizes = tt;
}

pub returns-then-not-is_magic : goal.returns-then-not-is_magic
returns-then-not-is_magic c = record {
  head = sym (head_found c.args.bytes.now Magic (c.if-bytes-lt-HEAD_BYTES.false, no_magic c.args.bytes.now (sym c.is_magic.ensures ∙ c.if-not-is_magic.true)));
  sizes = tt;
}

pub returns-then-read_u32-ne-VERSION : goal.returns-then-read_u32-ne-VERSION
returns-then-read_u32-ne-VERSION c =
    let good = sym c.is_magic.ensures ∙ c.if-not-is_magic.false in
    record {
      head = sym (version_is c.args.bytes.now c.if-bytes-lt-HEAD_BYTES.false good (λ is. c.if-read_u32-ne-VERSION.true (c.read_u32.ensures ∙ read_there 8 c.args.bytes.now ∙ is)));
      sizes = tt;
    }

pub returns-then-nodes-lt-MIN_NODES : goal.returns-then-nodes-lt-MIN_NODES
returns-then-nodes-lt-MIN_NODES c =
    let b = c.args.bytes.now in
    let good = sym c.is_magic.ensures ∙ c.if-not-is_magic.false in
    let known = sym (read_there 8 b) ∙ sym c.read_u32.ensures ∙ c.if-read_u32-ne-VERSION.false in
    let none : ¬ AreSizes c.read_u32-nodes.result c.read_u32-swaps.result = λ s. elim c.then-nodes-lt-MIN_NODES.branch [
      | then-nodes-lt-MIN_NODES-via-then-nodes-lt-MIN_NODES w ↦ absurd (omega (arith, s.some_nodes, w.if-nodes-lt-MIN_NODES.true))
      | then-nodes-lt-MIN_NODES-via-else-nodes-lt-MIN_NODES+then-nodes-gt-MAX_NODES w ↦ absurd (omega (arith, s.nodes_fit, w.if-nodes-gt-MAX_NODES.true))
      | then-nodes-lt-MIN_NODES-via-else-nodes-lt-MIN_NODES+else-nodes-gt-MAX_NODES+then-swaps-lt-MIN_SWAPS w ↦ absurd (omega (arith, s.some_swaps, w.if-swaps-lt-MIN_SWAPS.true))
      | then-nodes-lt-MIN_NODES-via-else-nodes-lt-MIN_NODES+else-nodes-gt-MAX_NODES+else-swaps-lt-MIN_SWAPS+then-swaps-gt-MAX_SWAPS w ↦ absurd (omega (arith, s.swaps_fit, w.if-swaps-gt-MAX_SWAPS.true))
    ] in
    record {
      head = sym (sizes_refused b c.read_u32-nodes.result c.read_u32-swaps.result c.if-bytes-lt-HEAD_BYTES.false good known (c.read_u32-nodes.ensures ∙ read_there 12 b) (c.read_u32-swaps.ensures ∙ read_there 16 b) none);
      sizes = tt;
    }

pub returns : goal.returns
returns c =
    let b = c.args.bytes.now in
    let good = sym c.is_magic.ensures ∙ c.if-not-is_magic.false in
    let known = sym (read_there 8 b) ∙ sym c.read_u32.ensures ∙ c.if-read_u32-ne-VERSION.false in
    let sizes : AreSizes c.read_u32-nodes.result c.read_u32-swaps.result = record {
      some_nodes = c.if-nodes-lt-MIN_NODES.false;
      nodes_fit = c.if-nodes-gt-MAX_NODES.false;
      some_swaps = c.if-swaps-lt-MIN_SWAPS.false;
      swaps_fit = c.if-swaps-gt-MAX_SWAPS.false;
    } in
    record {
      head = sizes_are_read b c.read_u32-nodes.result c.read_u32-swaps.result c.if-bytes-lt-HEAD_BYTES.false good known (c.read_u32-nodes.ensures ∙ read_there 12 b) (c.read_u32-swaps.ensures ∙ read_there 16 b) sizes;
      sizes = sizes;
    }
