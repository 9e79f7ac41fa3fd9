use Rattle.std.proofs.Common.{refl, rules}
use Rattle.model.specs.Words.{base_of}
use Rattle.propagation.proofs.Indexing.{indexed_link}
use Rattle.propagation.proofs.index.Index.link.Goals as goal

pub returns : goal.returns
returns c = indexed_link (base_of c.args.base.now) c.args.s _ c.args.p c.args.self.now _ (search rules) (search rules) (search rules) c.requires.stands refl refl refl c.requires.before
