use Rattle.version_stack.proofs.versions.Versions.write.Goals as goal

pub note-requires-clause-above : goal.note-requires-clause-above
note-requires-clause-above g c = rw c.tidy.ensures.same c.requires.above

pub note-requires-clause-known : goal.note-requires-clause-known
note-requires-clause-known g c = rw c.tidy.ensures.same c.requires.known

pub note-requires-clause-owned : goal.note-requires-clause-owned
note-requires-clause-owned g c = rw c.tidy.ensures.same c.requires.owned
