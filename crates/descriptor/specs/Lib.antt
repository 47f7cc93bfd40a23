-- What calls on a descriptor answered: definitions that contracts cite.
pub mod Answers
pub mod Rounds
