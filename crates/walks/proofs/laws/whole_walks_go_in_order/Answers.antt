use Rattle.walks.proofs.OrderLemmas.{whole_in_order}
use Rattle.walks.proofs.laws.whole_walks_go_in_order.Goals as goal

pub returns : goal.returns
returns c = λ t some. whole_in_order t some
