-- That the judgement is the rules'.
pub mod Chain
pub mod Judging
