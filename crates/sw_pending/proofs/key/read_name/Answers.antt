use Rattle.sw_pending.proofs.Naming.{read_key, read_none, read_text}
use Rattle.sw_pending.proofs.key.read_name.Goals as goal

pub returns-clause-key : goal.returns-clause-key
returns-clause-key c = read_key c.args.text.now c.key_in.result c.key_in.ensures

pub returns-clause-reads : goal.returns-clause-reads
returns-clause-reads c = read_text c.args.text.now c.key_in.result c.key_in.ensures

pub returns-clause-refuses : goal.returns-clause-refuses
returns-clause-refuses c = read_none c.args.text.now c.key_in.result c.key_in.ensures
