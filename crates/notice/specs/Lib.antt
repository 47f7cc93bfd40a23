-- What there is to say of an answer: definitions that contracts cite.
pub mod Notices
pub mod Told
