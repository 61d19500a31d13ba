use Rattle.part_engine.proofs.stored.StoredPart.next_class.Goals as goal

pub returns-in-Begin : goal.returns-in-Begin
returns-in-Begin g c =
    let whole = rw c.in-Begin.is at c.requires.whole in
    rw c.in-Begin.is (λ answers wanted rows. rw whole c.class_after.ensures)
