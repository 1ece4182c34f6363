use Rattle.bz_node.proofs.Entries.{IsEntry-pair}
use Rattle.bz_node.proofs.record.Tuple2KeyPayloadRecord.sizes.Goals as goal

pub returns-clause-entry : goal.returns-clause-entry
returns-clause-entry c = IsEntry-pair c.args.self.now c.bytes-key.ensures.is_key c.bytes-payload.ensures.is_payload
