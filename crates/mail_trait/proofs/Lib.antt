pub mod FilesLemmas
pub mod FolderLemmas
pub mod ListingLemmas
pub mod StreamLemmas
