-- The disk loss: the table, the paper's rule, and what follows from the rule.
pub mod Loss
pub mod Rising
