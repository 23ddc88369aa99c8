-- Two facts at once, where each is asked for by the name of its clause.

pub clauses : {A B R : Type 0} → (A → B → R) → A × B → R
clauses f p = f p.0 p.1
