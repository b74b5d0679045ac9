-- Bytes are read where they are UTF-8 and JSON, and refused for want of memory or where they aren't both.
use Rattle.sw_ring.proofs.JsonTexts.{json_in-None, json_in-Some}
use Rattle.sw_ring.proofs.reading.json_of.Goals as goal

pub returns-in-Ok-clause-json : goal.returns-in-Ok-clause-json
returns-in-Ok-clause-json c = json_in-Some _ _ c.in-Ok.ensures.ok.0 c.in-Ok.ensures.ok.1

pub returns-else-is_memory-clause-bad : goal.returns-else-is_memory-clause-bad
returns-else-is_memory-clause-bad c = λ bad e. (cc, json_in-None _ (c.in-Err.ensures.err (λ memory. cc (c.if-is_memory.ensures.1 memory))))
